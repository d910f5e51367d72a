pub mod Plans
pub mod inside
