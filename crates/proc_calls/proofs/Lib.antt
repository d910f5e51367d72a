pub mod Arities
pub mod Listing
