pub mod Masks
pub mod Places
