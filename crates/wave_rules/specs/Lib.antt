pub mod Answers
pub mod Calls
pub mod Dump
pub mod Examples
pub mod Lines
pub mod Reader
pub mod Stages
