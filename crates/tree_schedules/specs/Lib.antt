pub mod Deliveries
pub mod Schedules
pub mod StandIns
pub mod PromptExamples
