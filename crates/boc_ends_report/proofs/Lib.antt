pub mod OneText
pub mod examples
