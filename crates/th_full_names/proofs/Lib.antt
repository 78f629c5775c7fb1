pub mod NameLaws
pub mod GivenLaws
