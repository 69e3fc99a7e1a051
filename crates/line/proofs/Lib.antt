pub mod RowLaws
pub mod PlacedLaws
pub mod SameLine
pub mod Examples
