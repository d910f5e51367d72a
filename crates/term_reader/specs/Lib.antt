pub mod Height
pub mod Lawful
pub mod inside
