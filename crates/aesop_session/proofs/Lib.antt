pub mod Completion
pub mod Answering
pub mod Exclusions
pub mod ForcedStatuses
mod ServedCommands
mod SharedAnswers
mod RuleSets
