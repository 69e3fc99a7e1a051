pub mod Masks
pub mod ByWord
pub mod Values
