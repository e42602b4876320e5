pub mod Listing
pub mod Changing
pub mod Events
pub mod Kept
pub mod Going
pub mod Handing
