pub mod Classes
pub mod DifferentNames
pub mod Items
pub mod Least
pub mod Lowering
pub mod Merging
pub mod SameOwn
pub mod Units
