pub mod Bounding
pub mod Counting
pub mod Adding
pub mod Placing
pub mod Sorting
pub mod Tallying
pub mod Rounds
pub mod Alone
pub mod AddingUp
pub mod OneSample
mod examples
