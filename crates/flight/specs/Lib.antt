pub mod Entry
pub mod Places
pub mod Acked
pub mod Lost
pub mod View
