pub mod Words
pub mod Decoded
pub mod Reading
