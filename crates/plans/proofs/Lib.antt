pub mod Agreeing
pub mod Cutting
pub mod Examples
pub mod Written
