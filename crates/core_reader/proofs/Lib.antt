pub mod ReadLaws
pub mod WithinText
pub mod Refusals
pub mod TextLaws
pub mod SmallTexts
