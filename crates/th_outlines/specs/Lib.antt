pub mod Programs
pub mod Placing
pub mod Fulls
pub mod Stages
