pub mod EndTexts
