pub mod Found
pub mod Put
pub mod Removed
pub mod Map
pub mod Stays
pub mod Filled
pub mod Run
