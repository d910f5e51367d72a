pub mod Codes
pub mod Frontiers
