pub mod ValueTexts
pub mod OutcomeTexts
