pub mod Hot
pub mod Columns
