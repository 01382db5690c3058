pub mod Ciphers
pub mod Made
