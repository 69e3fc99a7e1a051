pub mod Numbers
pub mod Storing
pub mod Inverse
pub mod Conversions
