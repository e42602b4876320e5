pub mod Parted
pub mod Block
