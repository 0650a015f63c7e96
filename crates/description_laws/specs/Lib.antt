pub mod Description
pub mod Faults
