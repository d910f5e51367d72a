pub mod Watched
pub mod Guarded
pub mod Alike
