pub mod Named
pub mod Owned
pub mod Judging
pub mod Mains
pub mod Naming
