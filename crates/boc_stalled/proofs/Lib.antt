pub mod Sound
pub mod Judged
pub mod Least
pub mod Waiting
pub mod Marking
