pub mod RunLaws
pub mod Parts
pub mod ExplainedTexts
pub mod ExplainedLaws
pub mod WaitingTexts
