pub mod Marks
pub mod Order
pub mod Back
pub mod Steps
