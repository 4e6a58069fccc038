pub mod Blanks
pub mod Stored
pub mod examples
