pub mod Lists
pub mod Kept
pub mod Receive
pub mod Send
pub mod Answers
pub mod Unbroken
pub mod Refused
