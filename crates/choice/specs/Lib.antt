pub mod Pick
pub mod Lists
