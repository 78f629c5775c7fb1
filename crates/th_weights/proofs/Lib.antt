pub mod Supertypes
pub mod Tabling
pub mod Weighing
