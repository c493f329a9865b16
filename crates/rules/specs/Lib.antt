pub mod Results
pub mod Rules
