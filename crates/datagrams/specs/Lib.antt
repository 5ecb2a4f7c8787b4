pub mod Datagrams
pub mod Further
