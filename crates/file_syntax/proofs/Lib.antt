pub mod Abstractions
pub mod Derivations
pub mod Endings
pub mod TypeEndings
pub mod FileEndings
pub mod Completions
pub mod Openings
pub mod Outcomes
