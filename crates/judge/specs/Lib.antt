pub mod Verdicts
pub mod Turns
