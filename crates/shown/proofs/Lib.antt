pub mod Shown
pub mod Follows
pub mod Unique
