pub mod Counting
pub mod Telling
pub mod Naming
