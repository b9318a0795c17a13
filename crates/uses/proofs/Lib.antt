-- The laws of the walk over uses.
pub mod Cases
