pub mod Guided
pub mod Stepping
pub mod Reasons
