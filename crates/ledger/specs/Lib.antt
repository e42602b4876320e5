pub mod Own
pub mod Notes
pub mod Refusals
pub mod State
