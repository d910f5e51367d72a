pub mod Calls
pub mod PureCalls
pub mod CallCodes
pub mod inside
