pub mod Valid
pub mod Codec
pub mod Laws
pub mod Decode
pub mod Encode
pub mod Transactions
pub mod Beside
