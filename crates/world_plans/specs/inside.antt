pub mod Called
pub mod Delivered
pub mod Turns
pub mod Waiting
