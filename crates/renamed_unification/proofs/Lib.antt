pub mod RenamedPatterns
pub mod RenamedSteps
pub mod UnrenamedSteps
pub mod FrozenAlike
pub mod Laws
