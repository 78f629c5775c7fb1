pub mod Judging
pub mod Counting
pub mod Reading
pub mod Accepting
pub mod Once
pub mod OneModule
pub mod Never
