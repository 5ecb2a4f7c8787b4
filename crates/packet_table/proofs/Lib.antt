pub mod Width
pub mod Output
pub mod Rule
pub mod Lengths
pub mod Known
