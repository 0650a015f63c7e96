pub mod Schemes
pub mod Ties
