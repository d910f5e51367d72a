pub mod Bytes
pub mod Leaves
pub mod Marks
