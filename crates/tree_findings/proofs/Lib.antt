pub mod Least
pub mod Putting
pub mod Sorting
pub mod Places
pub mod Schedules
