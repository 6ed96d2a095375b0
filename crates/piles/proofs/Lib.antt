pub mod Alone
pub mod Below
pub mod Examples
pub mod Four
pub mod Kept
pub mod Turning
