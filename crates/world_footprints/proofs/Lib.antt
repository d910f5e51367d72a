pub mod Masks
pub mod Writing
