pub mod Numerals
pub mod Ahead
pub mod Progress
pub mod Sending
