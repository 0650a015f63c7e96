pub mod Firsts
pub mod Uniqueness
