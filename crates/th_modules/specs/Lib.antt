pub mod View
pub mod Lowering
pub mod Own
