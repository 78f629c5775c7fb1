pub mod DeclLaws
pub mod VecLoops
pub mod Whole
