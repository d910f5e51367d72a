pub mod Alike
pub mod Guarding
pub mod Linked
pub mod Listing
pub mod Named
pub mod Telling
pub mod Watching
