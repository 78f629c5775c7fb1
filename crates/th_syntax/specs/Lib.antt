pub mod Read
pub mod Parse
pub mod Gives
pub mod Lists
pub mod Founds
pub mod Grown
