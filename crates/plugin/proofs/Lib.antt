pub mod Codes
pub mod Unique
pub mod Together
