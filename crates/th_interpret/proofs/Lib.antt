pub mod Acts
pub mod Grows
pub mod Running
