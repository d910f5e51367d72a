pub mod Functions
pub mod ToldCodes
pub mod Steps
