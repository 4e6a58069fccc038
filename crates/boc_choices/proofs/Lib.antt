pub mod Marked
pub mod Apart
pub mod Closed
pub mod Rows
pub mod examples
