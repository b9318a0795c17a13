-- Where the arities stand, and what the walk over terms hands back.
pub mod Arity
pub mod Values
pub mod Headings
