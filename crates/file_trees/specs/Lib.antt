pub mod Trees
pub mod TreeCodes
pub mod TermViews
pub mod TermSizes
pub mod TypeViews
pub mod TypeSizes
pub mod Places
