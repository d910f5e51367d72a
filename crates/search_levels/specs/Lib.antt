pub mod Arrivals
pub mod Known
pub mod Rows
pub mod Searched
pub mod inside
