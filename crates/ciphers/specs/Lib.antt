pub mod Blocks
pub mod Maps
pub mod internal
