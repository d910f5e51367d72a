pub mod Binding
pub mod Matches
pub mod Fitted
pub mod Alike
