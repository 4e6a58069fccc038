pub mod EndRuns
pub mod Searched
