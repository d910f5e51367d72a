pub mod Parts
pub mod TableRows
pub mod Tables
pub mod CellLaws
pub mod inside
