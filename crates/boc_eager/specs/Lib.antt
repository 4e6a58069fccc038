pub mod Kinds
pub mod Eager
pub mod Swaps
pub mod Lines
pub mod Courses
