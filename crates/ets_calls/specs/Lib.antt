pub mod Arguments
pub mod Calls
pub mod Options
pub mod Requests
