pub mod Orders
pub mod TrailView
pub mod Traces
pub mod Runs
