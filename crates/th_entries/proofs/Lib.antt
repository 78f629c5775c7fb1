pub mod Entering
pub mod Ending
pub mod Calling
pub mod Calls
pub mod Backs
