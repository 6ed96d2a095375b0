pub mod Adding
pub mod Below
