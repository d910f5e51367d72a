pub mod Numbers
pub mod NumberExamples
