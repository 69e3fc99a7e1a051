pub mod Decimal
pub mod Fields
