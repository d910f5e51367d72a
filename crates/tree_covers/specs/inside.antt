pub mod Frames
pub mod Codes
pub mod Lines
pub mod Owned
