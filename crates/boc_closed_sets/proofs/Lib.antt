pub mod Turns
pub mod Stepping
pub mod Carrying
pub mod Exchanging
pub mod Finding
pub mod Sufficing
pub mod Covering
mod examples
