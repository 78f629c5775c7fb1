pub mod Parse
pub mod Parts
pub mod Answer
