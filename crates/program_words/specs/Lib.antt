pub mod RefusalText
pub mod Words
pub mod inside
