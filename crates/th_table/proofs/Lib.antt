pub mod Said
pub mod Made
