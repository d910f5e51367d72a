pub mod CallText
pub mod EventText
