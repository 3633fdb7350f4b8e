pub mod Laws
pub mod Tells
pub mod Words
