pub mod Cores
pub mod View
