pub mod Applied
pub mod Parts
pub mod Changing
pub mod Opening
pub mod Placed
