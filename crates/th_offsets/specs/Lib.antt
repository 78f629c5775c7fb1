pub mod Walks
pub mod Maps
pub mod Counts
pub mod Known
pub mod Given
