pub mod Independence
pub mod inside
