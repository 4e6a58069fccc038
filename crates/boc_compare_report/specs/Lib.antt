pub mod CompareTexts
pub mod PairTexts
pub mod Compared
pub mod Same
