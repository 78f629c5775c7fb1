pub mod Callees
pub mod NewLaws
