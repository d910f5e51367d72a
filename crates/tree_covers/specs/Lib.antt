pub mod CoverText
pub mod Judging
pub mod Faults
pub mod CoverLaws
pub mod Writing
pub mod inside
