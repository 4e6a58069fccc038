pub mod Holds
pub mod Ready
pub mod Ends
pub mod Users
pub mod Fronts
pub mod Plans
