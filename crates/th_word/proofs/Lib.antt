pub mod Words
pub mod TwosComplement
