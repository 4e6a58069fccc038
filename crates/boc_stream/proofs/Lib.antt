pub mod Ahead
pub mod ShortFields
pub mod Telling
