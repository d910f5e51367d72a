pub mod Bars
pub mod Names
pub mod Checks
pub mod Deeper
pub mod Lines
