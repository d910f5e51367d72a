pub mod inside
pub mod Explorations
pub mod Pieces
pub mod Meanings
pub mod Reached
