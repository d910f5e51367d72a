pub mod Additions
pub mod AfterKey
pub mod Counting
pub mod Finding
pub mod Kept
pub mod Lines
