pub mod Runs
pub mod Tabled
pub mod Stepping
pub mod Spreading
pub mod Gathered
pub mod Ends
pub mod Searching
