pub mod Kept
pub mod Cells
pub mod Alike
