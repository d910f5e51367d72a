pub mod Shared
pub mod Seen
pub mod Advanced
pub mod Planned
pub mod Waiting
pub mod inside
