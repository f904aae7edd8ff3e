pub mod NameTexts
pub mod TextLengths
pub mod SameTexts
pub mod SameTypes
pub mod TermLines
