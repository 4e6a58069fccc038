pub mod Streams
pub mod Lines
pub mod Outgoing
pub mod Writing
