pub mod Places
pub mod First
pub mod Twice
pub mod KeySet
pub mod Homes
