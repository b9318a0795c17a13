-- A pattern matched with a call that stands in the work table, and the search for the smallest index.
pub mod Bound
pub mod Matching
