pub mod Statements
pub mod Report
pub mod Cells
pub mod Came
pub mod Examples
