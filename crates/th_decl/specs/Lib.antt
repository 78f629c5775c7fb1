pub mod Parse
pub mod Answer
