pub mod Seen
pub mod Places
pub mod Stands
pub mod Law
pub mod Laws
