pub mod Turns
pub mod Pace
pub mod Course
pub mod Splits
pub mod Workers
pub mod Ticks
