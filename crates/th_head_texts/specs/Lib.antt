pub mod Heads
pub mod Spaced
