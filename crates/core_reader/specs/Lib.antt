pub mod ModuleText
pub mod Refusal
pub mod SmallModule
pub mod inside
