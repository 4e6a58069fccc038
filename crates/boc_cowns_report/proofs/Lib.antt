pub mod Low
pub mod OneText
pub mod Texts
pub mod examples
