pub mod Ids
pub mod Ordered
pub mod Gate
