pub mod Products
pub mod internal
