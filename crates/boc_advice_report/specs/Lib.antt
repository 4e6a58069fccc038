pub mod AdviceTexts
pub mod WorkersTexts
pub mod OrderTexts
pub mod StepsTexts
pub mod WhyTold
pub mod Same
