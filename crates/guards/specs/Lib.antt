pub mod Shift
pub mod Report
