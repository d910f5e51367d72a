pub mod Sizes
pub mod Depth
pub mod SyntaxCodes
pub mod AlikeLaws
