-- The laws of matching and of the search, each above the one before.
pub mod Bound
pub mod Meeting
pub mod Walking
pub mod Searching
