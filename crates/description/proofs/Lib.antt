pub mod Ends
pub mod Exits
pub mod Marks
pub mod Spots
pub mod Steps
pub mod Stops
pub mod Unreads
