pub mod Whens
