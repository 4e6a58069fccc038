pub mod FirstTokens
pub mod Taken
