pub mod Written
pub mod Named
pub mod Loadable
pub mod ReadBack
pub mod Rising
pub mod Lawful
pub mod Run
