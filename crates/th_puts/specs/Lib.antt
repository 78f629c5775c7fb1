pub mod Form
pub mod Runs
