pub mod StmtLaws
pub mod Rooms
pub mod Bodies
