pub mod Forms
pub mod Levels
pub mod Loops
pub mod Notes
pub mod Openings
pub mod Decoder
pub mod DecoderForms
pub mod DecoderModules
