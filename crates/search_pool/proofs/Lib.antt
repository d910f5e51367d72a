pub mod Places
mod Handing
pub mod Jobs
pub mod Legal
pub mod Sums
pub mod Tickets
pub mod Compared
pub mod Frontiers
pub mod Outcomes
