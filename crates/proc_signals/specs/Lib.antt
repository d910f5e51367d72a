pub mod Signal
pub mod Alike
pub mod Mailbox
pub mod Channels
pub mod inside
