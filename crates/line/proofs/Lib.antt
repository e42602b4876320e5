pub mod Framing
pub mod Reading
pub mod Values
pub mod Applied
pub mod Totals
pub mod Pieces
