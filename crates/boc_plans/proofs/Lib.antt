pub mod Children
pub mod Seeing
pub mod EditedOrder
pub mod EditedBy
pub mod Numbered
pub mod FreedSeeing
pub mod examples
