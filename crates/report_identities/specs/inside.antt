pub mod Cuts
pub mod Rules
pub mod CallPieces
pub mod Reading
