pub mod Refusals
pub mod Laid
pub mod Runs
pub mod Inside
pub mod Held
