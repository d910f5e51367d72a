pub mod Bindings
pub mod Frames
pub mod HoleCodes
pub mod Layers
pub mod Matched
pub mod Fitted
pub mod Fitting
pub mod Bare
