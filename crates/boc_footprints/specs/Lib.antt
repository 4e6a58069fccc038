pub mod Whens
pub mod Footprints
pub mod Spreading
pub mod Tables
