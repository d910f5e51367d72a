pub mod inside
pub mod Found
pub mod Merging
pub mod Laws
pub mod MergeExamples
