pub mod HexText
pub mod Number
pub mod Parts
pub mod Signed
