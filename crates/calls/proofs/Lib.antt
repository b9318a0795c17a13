-- The laws of a call that stands in the work table, each above the one before.
pub mod Arities
pub mod Standing
pub mod Passing
pub mod Numbers
pub mod Sameness
pub mod Moving
