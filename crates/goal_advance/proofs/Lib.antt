mod GoalsAfter
mod EarlierEntries
mod LaterEntries
pub mod NewGoals
