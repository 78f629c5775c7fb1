pub mod Follow
pub mod Forms
pub mod Stops
