pub mod Opening
pub mod Planning
pub mod Reading
pub mod Tables
