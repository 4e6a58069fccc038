pub mod Stages
pub mod Queues
pub mod Steps
pub mod Schedules
pub mod Turns
pub mod Sound
pub mod AlongRows
pub mod Movers
