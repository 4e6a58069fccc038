pub mod Noting
pub mod Calling
