-- The laws of the walk over certificates.
pub mod Cases
