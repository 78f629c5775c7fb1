pub mod View
pub mod ItemView
pub mod Places
