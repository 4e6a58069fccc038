pub mod Runs
pub mod InFront
pub mod Told
pub mod Lines
pub mod Put
pub mod Known
pub mod OneText
pub mod Short
pub mod Beginnings
pub mod OneFault
pub mod Wrote
pub mod Handing
pub mod Sending
mod examples
