pub mod Numbers
pub mod ListSteps
pub mod Arguments
pub mod Alike
pub mod DictionaryLaws
