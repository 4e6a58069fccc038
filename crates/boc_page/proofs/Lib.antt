pub mod Args
pub mod Inert
pub mod InertBlock
pub mod Listed
pub mod OneText
pub mod Places
pub mod Regroup
