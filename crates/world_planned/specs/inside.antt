pub mod Messages
pub mod NamedWatches
pub mod Outliving
pub mod Planned
pub mod PlannedCalls
pub mod Seen
