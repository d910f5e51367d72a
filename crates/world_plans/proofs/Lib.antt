pub mod Apart
pub mod Applied
pub mod Asking
pub mod Doing
pub mod Parting
pub mod Performed
pub mod Turning
