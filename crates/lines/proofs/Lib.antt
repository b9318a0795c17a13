-- The laws behind the contracts of this crate.
pub mod Claims
pub mod Placing
pub mod Closings
pub mod Certifying
pub mod Going
pub mod Mapping
