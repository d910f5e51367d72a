pub mod FindingCodes
pub mod Places
