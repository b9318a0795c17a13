-- A call that stands in the work table: what is left of it from a place on, and where each of its terms ends.
pub mod Standing
pub mod Moving
