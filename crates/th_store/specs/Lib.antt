pub mod Alike
pub mod Charges
pub mod Found
pub mod Kinds
pub mod Slots
pub mod Stock
