pub mod Committed
pub mod Proved
pub mod Settled
pub mod Laws
