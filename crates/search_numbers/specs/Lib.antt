pub mod Knowing
pub mod Local
pub mod Parts
pub mod Remembering
pub mod Rows
pub mod Stored
pub mod inside
