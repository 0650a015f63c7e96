pub mod Compass
pub mod Halves
pub mod Layout
pub mod Numbers
pub mod Orders
