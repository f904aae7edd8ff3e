pub mod Seen
pub mod Journals
pub mod Trees
pub mod Children
