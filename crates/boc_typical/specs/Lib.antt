pub mod Medians
pub mod Taken
pub mod Typical
pub mod Spread
pub mod Outliers
