pub mod BadLines
pub mod Lawful
pub mod Lines
pub mod Merged
pub mod inside
