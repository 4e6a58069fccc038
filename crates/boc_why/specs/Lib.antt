pub mod Shares
pub mod LinkCodes
pub mod ShareTotals
pub mod Causes
pub mod Ranking
pub mod WhySteps
pub mod Why
