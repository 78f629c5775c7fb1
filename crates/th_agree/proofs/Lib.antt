pub mod LeastNames
pub mod Entries
pub mod Placed
pub mod Exported
pub mod Finding
