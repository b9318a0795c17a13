-- The laws behind the contracts of this crate.
pub mod Descents
