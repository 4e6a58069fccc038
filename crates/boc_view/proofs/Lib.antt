mod Refused
mod Over
