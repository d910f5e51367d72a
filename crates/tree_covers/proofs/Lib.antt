pub mod LineLaws
pub mod MarkLaws
pub mod PlaceLaws
pub mod FaultLaws
pub mod JudgeLaws
pub mod FrameLaws
pub mod OwnLaws
pub mod OwedLaws
