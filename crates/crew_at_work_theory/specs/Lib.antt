pub mod Statements
pub mod Orders
pub mod Wholes
pub mod Counters
pub mod Wraps
pub mod Due
pub mod Examples
pub mod Reorders
