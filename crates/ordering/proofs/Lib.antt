pub mod Places
pub mod Next
pub mod Calls
