pub mod Commands
pub mod EditWords
pub mod Tables
pub mod Words
