pub mod Tests
pub mod Partners
