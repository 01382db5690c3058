pub mod KeyWords
pub mod NextKey
pub mod Keys
pub mod Runs
