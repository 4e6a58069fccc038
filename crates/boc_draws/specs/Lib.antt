pub mod Picks
pub mod Draws
pub mod Ways
