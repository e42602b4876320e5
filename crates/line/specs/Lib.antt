pub mod Frames
pub mod Laws
pub mod Errors
pub mod Serial
