pub mod Args
pub mod Calls
pub mod Refusing
