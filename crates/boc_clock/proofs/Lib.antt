pub mod Firsts
pub mod OneFirst
pub mod Bounds
