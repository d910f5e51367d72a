pub mod Beginnings
pub mod Chosen
pub mod Walking
pub mod Showing
