pub mod Checks
pub mod Head
pub mod Numbers
