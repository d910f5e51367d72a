pub mod Changes
pub mod Plans
pub mod Tables
pub mod inside
