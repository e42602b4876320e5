pub mod Failures
pub mod Handing
