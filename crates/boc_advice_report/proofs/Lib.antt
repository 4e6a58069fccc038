pub mod Firsts
pub mod OneText
pub mod Regroup
pub mod SameChain
pub mod Shares
