pub mod Signed
pub mod Digits
