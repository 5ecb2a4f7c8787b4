pub mod Apart
pub mod Ids
pub mod Stored
pub mod Stays
pub mod Called
pub mod Theorems
