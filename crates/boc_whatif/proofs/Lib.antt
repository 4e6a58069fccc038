pub mod Changing
pub mod Between
pub mod Commuting
pub mod Successive
pub mod Keeping
pub mod Least
pub mod Ends
pub mod FreedEnds
