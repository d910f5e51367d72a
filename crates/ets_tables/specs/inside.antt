pub mod Alike
pub mod Lending
