pub mod Shelves
pub mod Tables
pub mod Lending
pub mod TableLaws
pub mod Ends
pub mod inside
