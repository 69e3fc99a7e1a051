pub mod DecimalLaws
pub mod Stores
pub mod DigitLaws
pub mod FieldLaws
pub mod Turns
pub mod Examples
