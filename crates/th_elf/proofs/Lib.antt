pub mod Judged
pub mod Form
pub mod Apart
pub mod Headers
pub mod Lawfully
pub mod Logs
pub mod Standing
