pub mod Living
pub mod Showing
pub mod Worlds
pub mod Runs
pub mod Turns
mod Deadlocks
mod Unread
