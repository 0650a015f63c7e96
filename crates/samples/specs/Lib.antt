pub mod Choosing
pub mod Journey
pub mod Facts
