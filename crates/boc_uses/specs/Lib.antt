pub mod Uses
pub mod Noting
pub mod Laws
