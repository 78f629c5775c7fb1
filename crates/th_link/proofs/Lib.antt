pub mod Fetch
pub mod Spots
pub mod Follows
pub mod InTime
pub mod Words
pub mod Linked
