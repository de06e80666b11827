pub mod Assembly
pub mod Line
pub mod Mnemonic
pub mod Operands
pub mod Reading
pub mod Text
