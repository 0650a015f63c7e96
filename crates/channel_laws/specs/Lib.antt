pub mod Buffers
pub mod Table
pub mod Ports
pub mod Calls
pub mod Runs
pub mod Certificate
