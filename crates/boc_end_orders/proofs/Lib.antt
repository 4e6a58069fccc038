pub mod Tracing
pub mod Spreading
pub mod Ending
pub mod Trails
pub mod Coming
pub mod Placing
pub mod Naming
pub mod Records
