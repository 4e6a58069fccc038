pub mod Samples
pub mod Tallies
