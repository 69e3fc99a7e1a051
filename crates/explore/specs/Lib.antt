pub mod Ready
pub mod Turns
