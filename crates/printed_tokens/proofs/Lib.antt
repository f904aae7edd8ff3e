pub mod PieceTexts
pub mod Spelled
pub mod Digits
pub mod Names
pub mod Spelling
