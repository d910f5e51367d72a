pub mod Arities
pub mod Listing
pub mod Named
