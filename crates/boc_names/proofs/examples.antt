mod Ranges
mod SmallFile
