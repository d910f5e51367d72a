pub mod Told
pub mod Requests
pub mod Filled
pub mod Standing
pub mod inside
