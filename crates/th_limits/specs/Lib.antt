pub mod Earliest
pub mod Heads
pub mod Words
pub mod Laws
