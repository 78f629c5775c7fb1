pub mod Mains
pub mod Mapped
pub mod Naming
pub mod Owning
pub mod There
