pub mod Back
pub mod Decimal
pub mod Examples
pub mod Laws
pub mod Text
