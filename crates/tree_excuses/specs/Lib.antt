pub mod Excuses
pub mod Laws
pub mod Patterns
pub mod Rows
