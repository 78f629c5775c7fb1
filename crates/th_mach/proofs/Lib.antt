pub mod Apart
pub mod Kept
pub mod Names
pub mod Gets
pub mod Turns
pub mod Joined
