pub mod Benches
pub mod Mirrors
pub mod Runs
pub mod Sessions
pub mod internal
