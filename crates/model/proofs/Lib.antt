pub mod Order
pub mod Sorted
