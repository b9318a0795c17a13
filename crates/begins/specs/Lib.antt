-- Rules and claims that lie in a file, and what the work table tells of them.
pub mod Placed
pub mod Known
