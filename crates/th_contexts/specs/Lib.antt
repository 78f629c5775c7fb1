pub mod BaseView
pub mod Bases
pub mod First
pub mod Heads
pub mod Known
pub mod Placing
