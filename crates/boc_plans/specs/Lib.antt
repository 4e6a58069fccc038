pub mod Seen
pub mod Plans
pub mod Chains
pub mod Greedy
pub mod Fractions
pub mod Edits
pub mod Sweeps
