pub mod Onto
pub mod Shapes
pub mod Supers
