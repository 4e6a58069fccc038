pub mod Holding
pub mod Chosen
