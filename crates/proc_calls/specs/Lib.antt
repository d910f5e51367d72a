pub mod Arguments
pub mod Calls
pub mod Requests
