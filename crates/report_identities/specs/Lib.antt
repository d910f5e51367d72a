pub mod Lawful
pub mod inside
