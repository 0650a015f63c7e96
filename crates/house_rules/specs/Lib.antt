pub mod Filling
pub mod Guiding
pub mod Spreading
pub mod Offering
pub mod Leaning
pub mod Narrowing
