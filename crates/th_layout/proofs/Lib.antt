pub mod Judged
pub mod Found
pub mod Keeping
pub mod Running
pub mod Narrowing
pub mod Shaped
