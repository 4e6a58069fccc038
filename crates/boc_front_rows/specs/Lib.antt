pub mod Lists
pub mod ListsView
pub mod Rows
pub mod Claims
pub mod Orders
pub mod Seen
