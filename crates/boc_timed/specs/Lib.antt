pub mod Timed
pub mod Timetables
