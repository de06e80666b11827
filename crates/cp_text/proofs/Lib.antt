pub mod Choices
pub mod Cuts
pub mod HexTexts
pub mod Joined
pub mod NumberTexts
pub mod SignedTexts
