pub mod Spacing
pub mod Heads
pub mod Starts
