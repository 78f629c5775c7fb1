pub mod Different
pub mod Firsts
pub mod Heads
pub mod Interfaces
pub mod Knowing
pub mod Methods
pub mod Placing
