pub mod Json
pub mod Columns
pub mod Advice
pub mod Blocks
pub mod Listed
