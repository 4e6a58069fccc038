pub mod Known
pub mod Followed
pub mod Tables
pub mod Footprints
