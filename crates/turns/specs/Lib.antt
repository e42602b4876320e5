pub mod Marks
pub mod Queues
pub mod Entries
pub mod Rooms
pub mod State
