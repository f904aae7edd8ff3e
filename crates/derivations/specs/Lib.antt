pub mod Derivations
pub mod Replays
pub mod Unfolding
pub mod Laws
