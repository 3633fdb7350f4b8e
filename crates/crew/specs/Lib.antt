pub mod Model
pub mod Moves
pub mod Reply
pub mod Places
pub mod Turns
pub mod Idle
pub mod Loop
