pub mod Wants
pub mod StringTexts
pub mod CallTexts
pub mod WaitingTexts
pub mod StepLaws
pub mod ReportTexts
