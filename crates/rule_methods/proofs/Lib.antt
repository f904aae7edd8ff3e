pub mod AtomsTaken
