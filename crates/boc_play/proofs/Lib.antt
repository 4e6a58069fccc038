pub mod Standing
pub mod Chaining
pub mod Turning
pub mod Settling
pub mod Spawning
pub mod WholeRuns
