pub mod Acts
pub mod Aiming
pub mod Bytes
pub mod Calling
pub mod Charging
pub mod Entering
pub mod Parting
