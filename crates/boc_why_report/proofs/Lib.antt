pub mod Folds
pub mod Legs
pub mod Listed
pub mod OneText
pub mod Regroup
pub mod Tables
pub mod examples
