pub mod Alike
pub mod CellWrites
pub mod Listing
pub mod Maps
pub mod Parts
pub mod Same
pub mod Walking
