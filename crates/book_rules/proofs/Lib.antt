pub mod Appended
pub mod Dropped
pub mod Fine
pub mod Readings
pub mod Slid
pub mod Sound
pub mod Wrote
pub mod Outcomes
