pub mod Waiting
pub mod Playing
