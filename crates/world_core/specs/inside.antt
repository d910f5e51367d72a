pub mod EventCodes
pub mod Worlds
pub mod Showing
