pub mod Totalled
pub mod DefTables
pub mod Pairing
pub mod ByName
pub mod Sides
pub mod Changing
pub mod Laws
