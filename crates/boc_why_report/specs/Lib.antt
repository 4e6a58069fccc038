pub mod ChainTexts
pub mod ShortTexts
pub mod WhyTexts
