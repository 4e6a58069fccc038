pub mod Faults
pub mod LongLines
pub mod StreamFields
pub mod StreamTexts
