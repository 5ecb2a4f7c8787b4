pub mod Fits
pub mod Fragments
