pub mod Listing
pub mod Rowing
pub mod Walking
