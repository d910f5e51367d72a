pub mod Listed
pub mod Names
