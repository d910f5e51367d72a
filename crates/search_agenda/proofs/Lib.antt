pub mod Seen
pub mod Settling
pub mod Putting
pub mod Looking
pub mod Staying
