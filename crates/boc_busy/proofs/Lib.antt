pub mod AllKeep
pub mod Apart
pub mod Bound
pub mod Greedily
pub mod InLine
pub mod Lasting
pub mod Waiting
