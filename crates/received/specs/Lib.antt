pub mod Record
pub mod Field
pub mod Recent
