pub mod Levels
pub mod LevelSums
pub mod LevelExamples
