pub mod Same
pub mod Alike
