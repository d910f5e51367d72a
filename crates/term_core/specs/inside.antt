pub mod MeaningCodes
pub mod Depth
pub mod OrderLaws
pub mod StepOrderLaws
pub mod HashInputLaws
pub mod Writing
