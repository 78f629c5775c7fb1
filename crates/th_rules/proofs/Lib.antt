pub mod Examples
pub mod NoFailure
pub mod Subtyping
