pub mod inside
pub mod Identities
pub mod Order
