pub mod Orders
pub mod Apart
pub mod Claims
pub mod Fronts
pub mod Steps
pub mod Settled
