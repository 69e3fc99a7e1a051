pub mod TurnLaws
pub mod NextLaws
pub mod Unique
