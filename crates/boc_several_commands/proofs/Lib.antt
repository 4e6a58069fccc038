pub mod ManyDrawn
pub mod Compared
pub mod OneSided
pub mod Counting
pub mod DrawnSides
pub mod FewFamilies
pub mod OneRuns
pub mod RunsParts
