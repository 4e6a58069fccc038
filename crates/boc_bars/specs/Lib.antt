pub mod Bars
pub mod Packing
