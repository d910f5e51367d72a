pub mod Mailboxes
pub mod inside
