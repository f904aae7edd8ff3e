pub mod Books
pub mod Refusals
pub mod Orders
pub mod BookParts
pub mod Acceptance
pub mod Candidates
pub mod FittingRules
