pub mod Stores
pub mod WriteLaws
pub mod RefusedAs
pub mod ReadWritten
pub mod Unique
