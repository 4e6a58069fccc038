pub mod WhyRuns
pub mod Comparing
pub mod RunsTexts
pub mod CompareRuns
