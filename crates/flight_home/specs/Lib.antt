pub mod AtHome
