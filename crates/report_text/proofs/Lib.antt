pub mod ReportTexts
pub mod Listing
pub mod CleanLaws
pub mod NoExcuses
