pub mod Adding
pub mod Calling
pub mod Ending
pub mod Seeing
