pub mod Following
pub mod Shown
