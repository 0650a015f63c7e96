pub mod Registers
pub mod Telling
