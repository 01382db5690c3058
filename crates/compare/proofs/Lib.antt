pub mod Sectors
