pub mod Telling
pub mod OneText
pub mod examples
