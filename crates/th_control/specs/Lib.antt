pub mod Acts
pub mod Config
pub mod Values
