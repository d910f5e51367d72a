pub mod Counting
pub mod Held
pub mod Refused
