-- The laws behind the contracts of this crate.
pub mod Passing
pub mod Calling
pub mod Noting
pub mod Frames
pub mod Using
