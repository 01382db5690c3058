pub mod Shown
pub mod Parted
