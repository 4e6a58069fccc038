pub mod Behind
pub mod Decided
pub mod OneText
pub mod Parts
