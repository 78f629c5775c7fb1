pub mod Counts
pub mod Answers
pub mod Stages
pub mod Laws
