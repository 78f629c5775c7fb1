pub mod View
pub mod Supers
pub mod Parts
