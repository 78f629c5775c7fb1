pub mod Prefixes
pub mod Bounded
pub mod Steps
pub mod Whole
pub mod Agrees
pub mod Example
