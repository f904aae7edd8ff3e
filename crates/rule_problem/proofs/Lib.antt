pub mod BookRules
pub mod DifferentNumbers
pub mod Percentages
pub mod Branches
pub mod BookLaws
