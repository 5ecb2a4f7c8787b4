pub mod Parsed
pub mod Reprinted
pub mod Laws
pub mod Theorems
