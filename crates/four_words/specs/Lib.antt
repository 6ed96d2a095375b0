pub mod Joining
pub mod Keying
pub mod Networks
pub mod Passing
pub mod Quarters
pub mod Turning
pub mod internal
