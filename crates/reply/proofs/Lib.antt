pub mod Replying
pub mod Fits
