pub mod Shown
pub mod Alike
