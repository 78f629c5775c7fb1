pub mod Onto
pub mod Merging
pub mod Refused
pub mod Walking
