pub mod Bits
pub mod Calls
pub mod Image
pub mod Round
pub mod Texts
pub mod Theorems
pub mod Wrong
