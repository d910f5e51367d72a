pub mod Covered
pub mod Finding
pub mod Learning
