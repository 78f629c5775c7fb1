pub mod Heights
pub mod Occurrences
pub mod Rows
pub mod Tables
pub mod Loops
pub mod Judging
