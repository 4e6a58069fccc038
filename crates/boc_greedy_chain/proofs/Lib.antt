pub mod ByStart
pub mod Lowest
pub mod Freeing
pub mod Tying
pub mod Chaining
pub mod OneChain
