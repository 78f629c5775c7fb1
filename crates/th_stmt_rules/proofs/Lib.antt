pub mod Examples
pub mod NoFailure
