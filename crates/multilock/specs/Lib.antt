pub mod Locks
pub mod Free
pub mod Fine
