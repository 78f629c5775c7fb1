pub mod Alike
pub mod Charges
pub mod Slots
