pub mod Books
pub mod Calls
pub mod Layers
pub mod Likes
