pub mod Judged
pub mod CownsTexts
pub mod Same
