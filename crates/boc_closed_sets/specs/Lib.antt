pub mod Meant
pub mod Footprints
pub mod Closed
pub mod Enough
pub mod Covers
