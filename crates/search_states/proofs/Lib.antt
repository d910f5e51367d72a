pub mod Following
pub mod There
pub mod Deadlocks
pub mod Looking
pub mod Crossing
