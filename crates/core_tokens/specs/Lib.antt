pub mod Piece
pub mod Text
pub mod TokenText
pub mod Tokens
pub mod Lexing
pub mod Within
