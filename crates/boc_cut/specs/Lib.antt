pub mod Counting
pub mod Cuts
pub mod Reading
pub mod Spawned
pub mod Whole
pub mod Windows
