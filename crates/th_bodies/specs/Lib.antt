pub mod Bodies
pub mod Exported
pub mod Judging
