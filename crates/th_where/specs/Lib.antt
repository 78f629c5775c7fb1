pub mod Supplies
pub mod Refusals
