pub mod Removing
pub mod Beside
pub mod Downs
pub mod Cells
pub mod Pairs
pub mod Places
pub mod Changing
pub mod Halves
