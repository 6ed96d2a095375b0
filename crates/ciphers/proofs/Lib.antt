pub mod Blocks
pub mod Networks
pub mod Permuting
pub mod Same
