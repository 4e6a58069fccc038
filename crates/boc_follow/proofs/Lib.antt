pub mod Changes
pub mod Besides
pub mod Nexts
pub mod Wishing
pub mod Standing
pub mod Goes
pub mod RowKinds
pub mod Logs
pub mod Refusals
pub mod OnePlace
pub mod OneStray
mod examples
