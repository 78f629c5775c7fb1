pub mod CallsLemmas
pub mod FileLemmas
pub mod OutsideLemmas
