pub mod Reading
pub mod Sums
pub mod Report
pub mod Examples
pub mod Long
pub mod Back
