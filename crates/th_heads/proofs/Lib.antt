pub mod Finding
pub mod Mapped
pub mod Seen
