pub mod inside
pub mod Samples
