pub mod At
pub mod Touches
pub mod inside
