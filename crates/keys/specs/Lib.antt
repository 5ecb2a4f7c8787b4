pub mod Keys
pub mod Exact
pub mod Home
