pub mod Turns
pub mod ByReading
pub mod Goodness
pub mod Unique
pub mod Impostors
