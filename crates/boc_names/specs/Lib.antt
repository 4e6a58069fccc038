pub mod Grouping
pub mod Laying
pub mod Names
pub mod NamesFile
pub mod Said
pub mod Stretches
