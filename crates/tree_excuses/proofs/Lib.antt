pub mod Idle
pub mod Judged
pub mod Matching
pub mod PatternLaws
