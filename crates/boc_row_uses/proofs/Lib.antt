pub mod Following
pub mod InTurn
pub mod Ticks
pub mod Fitting
pub mod Ending
pub mod Running
pub mod Turning
pub mod Answering
mod examples
