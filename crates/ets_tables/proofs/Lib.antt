pub mod Alike
pub mod Following
pub mod Lending
pub mod Shelving
pub mod WrittenRows
