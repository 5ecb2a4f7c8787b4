pub mod World
pub mod Events
pub mod Agreement
