pub mod Beginnings
pub mod KeptLaws
pub mod LexLaws
pub mod OneLaws
pub mod TreeLaws
pub mod WrongLaws
