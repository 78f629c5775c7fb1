pub mod Quick
pub mod Statements
