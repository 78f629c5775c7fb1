pub mod Numbering
pub mod Given
pub mod Earliest
