pub mod PathLaws
pub mod Unique
