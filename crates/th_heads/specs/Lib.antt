pub mod Adding
pub mod Clauses
pub mod Classes
