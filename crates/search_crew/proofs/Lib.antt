pub mod Coming
mod Findings
pub mod Crossing
