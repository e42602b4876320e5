pub mod Log
pub mod House
pub mod Machine
pub mod Promise
pub mod Cases
