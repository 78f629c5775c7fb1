pub mod Homes
pub mod Sizes
pub mod Site
pub mod Code
pub mod Stubs
pub mod Units
pub mod Module
