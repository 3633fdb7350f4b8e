pub mod Wrong
pub mod Falls
pub mod Crews
