pub mod Deeds
pub mod Footprints
pub mod Plans
pub mod Views
pub mod inside
