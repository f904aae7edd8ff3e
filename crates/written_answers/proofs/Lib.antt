pub mod PrintableTerms
pub mod NamedRules
pub mod NamedSteps
pub mod WritableBlocks
