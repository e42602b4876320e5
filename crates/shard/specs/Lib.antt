pub mod Tasks
pub mod State
