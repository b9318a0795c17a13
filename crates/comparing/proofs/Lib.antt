-- The laws behind the contracts of this crate.
pub mod Subjects
pub mod Meanings
pub mod Finding
pub mod Looking
pub mod Asking
