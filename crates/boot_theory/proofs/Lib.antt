pub mod Examples
pub mod Over
pub mod Theorems
