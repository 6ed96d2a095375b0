pub mod Held
pub mod Idea
pub mod Keys
pub mod Mixing
pub mod Networks
pub mod internal
