pub mod Runs
pub mod Union
pub mod Spreads
pub mod Bins
pub mod Lines
pub mod Passes
pub mod Many
