pub mod Ends
pub mod Lists
