pub mod Explained
pub mod inside
