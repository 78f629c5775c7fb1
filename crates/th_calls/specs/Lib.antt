pub mod View
pub mod New
