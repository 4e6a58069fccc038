pub mod Crossing
pub mod Ended
pub mod Reached
