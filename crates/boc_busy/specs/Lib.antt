pub mod Busy
pub mod Keeping
pub mod Stints
pub mod Timed
