pub mod Merging
pub mod Halves
pub mod Few
pub mod Runs
