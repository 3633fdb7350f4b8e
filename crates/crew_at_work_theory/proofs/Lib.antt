pub mod Due
pub mod Examples
pub mod First
pub mod Kept
pub mod Once
pub mod Reorders
pub mod Theorems
