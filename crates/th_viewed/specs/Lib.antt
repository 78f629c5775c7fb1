pub mod Sources
pub mod Evaluation
pub mod Levels
pub mod Modules
pub mod Laws
