pub mod Checked
pub mod Made
pub mod Noting
pub mod Reaching
