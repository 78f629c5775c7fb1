pub mod Lengths
pub mod Levels
pub mod Onward
mod Everywhere
mod StubLaws
pub mod Laws
