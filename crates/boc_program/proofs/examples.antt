pub mod Samples
pub mod Transfer
