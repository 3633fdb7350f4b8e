pub mod Examples
pub mod Runs
pub mod Theorems
