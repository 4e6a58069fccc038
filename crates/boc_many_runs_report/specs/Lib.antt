pub mod ManyTexts
