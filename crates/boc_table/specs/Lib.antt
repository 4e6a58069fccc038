pub mod Tables
pub mod Storage
