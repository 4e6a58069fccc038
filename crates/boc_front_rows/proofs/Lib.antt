pub mod Listing
pub mod Places
pub mod Mapped
pub mod Sharing
pub mod Leaving
pub mod Spawning
pub mod Ordering
pub mod Staying
