pub mod Taken
pub mod LevelLaws
pub mod Sums
