pub mod Cells
pub mod Changes
pub mod Places
pub mod Records
pub mod inside
