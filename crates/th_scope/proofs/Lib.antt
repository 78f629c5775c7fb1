pub mod Walking
pub mod Deciding
pub mod Climb
pub mod Places
pub mod Different
