pub mod SignalCodes
pub mod Alike
