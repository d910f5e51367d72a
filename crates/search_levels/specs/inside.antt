pub mod Paths
pub mod Visits
pub mod Levels
pub mod Expanding
pub mod Searching
pub mod Following
