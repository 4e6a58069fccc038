pub mod ByLines
pub mod Lines
pub mod examples
