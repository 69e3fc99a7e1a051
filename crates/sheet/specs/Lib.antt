pub mod Sheet
pub mod Refusals
pub mod Answers
pub mod EachSet
pub mod Text
