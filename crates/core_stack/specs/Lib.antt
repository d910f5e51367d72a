pub mod Matching
pub mod Purposes
pub mod Holes
pub mod inside
