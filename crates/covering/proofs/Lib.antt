-- Whether a call is in the accepted family: the proofs.
pub mod Counted
pub mod Passing
pub mod Peeling
pub mod Outcome
pub mod Variable
pub mod Matching
pub mod Exact
pub mod Bounded
pub mod Largest
pub mod Covering
pub mod Family
pub mod AtWork
pub mod Reached
