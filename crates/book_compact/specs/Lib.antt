pub mod Slide
pub mod Lines
