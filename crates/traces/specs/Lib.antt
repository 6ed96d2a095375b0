pub mod Closing
pub mod Files
pub mod Headers
pub mod Laws
pub mod Opening
pub mod Padding
