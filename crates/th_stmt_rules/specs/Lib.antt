pub mod Exceptions
pub mod Scopes
pub mod Bodies
pub mod Failing
pub mod Raising
pub mod Ending
pub mod Units
pub mod Laws
