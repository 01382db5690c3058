pub mod Bytes
pub mod Parts
pub mod Swaps
pub mod Walks
pub mod Xor
