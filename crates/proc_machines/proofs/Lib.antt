pub mod Agreeing
pub mod Placing
pub mod Listing
pub mod Ordered
