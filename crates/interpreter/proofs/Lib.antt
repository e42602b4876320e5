pub mod Values
pub mod Turns
pub mod Effect
pub mod Zeros
