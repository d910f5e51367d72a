pub mod Pids
pub mod Courses
pub mod Processes
pub mod Receivers
