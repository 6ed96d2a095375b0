pub mod Only
pub mod Rules
pub mod Squarings
