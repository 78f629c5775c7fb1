pub mod Admits
pub mod First
pub mod Parts
pub mod Puts
pub mod Stands
pub mod Targets
