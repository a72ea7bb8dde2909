pub mod Carriers
pub mod Mailboxes
