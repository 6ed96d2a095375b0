pub mod Held
pub mod Networks
pub mod Xtea
pub mod internal
