pub mod Limits
pub mod Rooms
pub mod ApplyLaw
pub mod WorkedRows
pub mod ReadRequests
pub mod Places
