pub mod Release
pub mod Repeats
