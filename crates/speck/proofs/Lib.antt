pub mod Rotations
pub mod Loops
