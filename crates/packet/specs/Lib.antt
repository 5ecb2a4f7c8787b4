pub mod Read
pub mod Build
