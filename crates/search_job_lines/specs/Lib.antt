pub mod JobText
pub mod Reading
pub mod Faults
pub mod JobLineLaws
pub mod inside
