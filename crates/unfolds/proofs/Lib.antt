-- The laws behind the contracts of this crate.
pub mod Calls
pub mod Unfoldings
