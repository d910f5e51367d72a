pub mod Cuts
pub mod CutExamples
