pub mod Open
pub mod Sizes
pub mod Supers
pub mod Types
