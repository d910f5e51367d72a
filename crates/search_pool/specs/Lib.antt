pub mod inside
pub mod Explorations
pub mod Machine
pub mod Sums
pub mod Seen
pub mod Calls
