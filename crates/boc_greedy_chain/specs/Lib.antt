pub mod GreedyChains
pub mod Turns
