pub mod ClapSteps
pub mod ClapRows
pub mod ClapWalks
pub mod CommandWords
