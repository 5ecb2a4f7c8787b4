pub mod Order
pub mod Rfc1982
pub mod Agreement
