pub mod Reached
pub mod Nodes
pub mod Frames
pub mod Walks
