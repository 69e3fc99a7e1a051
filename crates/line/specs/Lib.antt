pub mod Lines
pub mod Placing
pub mod Text
