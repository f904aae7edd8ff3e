mod GreatestNumbers
mod TurnedMarks
mod RaisedTypes
mod ContextEntries
pub mod BindingLists
mod FrozenNumbers
pub mod UnifierEnds
pub mod InstancesAmong
mod WholeBindings
pub mod FreshParts
mod EntryTests
pub mod Composing
mod KeptPlaces
mod DroppedPlaces
mod AddingTests
mod OneMoreHypothesis
pub mod AddedCandidates
pub mod WholeUses
pub mod AtPlaces
pub mod OccurringVariables
mod UnfixedMarks
