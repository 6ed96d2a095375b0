pub mod Naming
pub mod Plainest
pub mod Verdicts
