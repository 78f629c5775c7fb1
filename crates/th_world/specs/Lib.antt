pub mod Calls
pub mod Event
pub mod Memory
pub mod Outside
pub mod Refusal
