pub mod Done
pub mod Endings
