pub mod Front
pub mod Digits
pub mod Names
pub mod Values
pub mod Made
pub mod Sound
pub mod Complete
pub mod Whole
mod Plain
