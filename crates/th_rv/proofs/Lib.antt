pub mod Fields
pub mod EncodeLemmas
pub mod DecodeLemmas
pub mod StepKeeps
