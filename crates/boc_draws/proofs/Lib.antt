pub mod Moving
pub mod Picking
pub mod Playing
pub mod OneDraw
pub mod OneWay
pub mod Ended
mod examples
