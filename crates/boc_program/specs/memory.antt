pub mod View
pub mod Stored
pub mod Falls
pub mod Same
pub mod Spent
pub mod Cells
