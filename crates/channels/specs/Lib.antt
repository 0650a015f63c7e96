pub mod Results
pub mod Running
