pub mod Names
pub mod Agree
pub mod Noted
