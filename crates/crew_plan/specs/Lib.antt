pub mod Lists
pub mod Starts
pub mod Fine
