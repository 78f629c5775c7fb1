pub mod Grows
pub mod Running
