pub mod Alike
pub mod Grouping
pub mod Referring
