mod Lines
mod WholeLines
pub mod ReplayLaws
pub mod FlushLaws
pub mod StopLaws
