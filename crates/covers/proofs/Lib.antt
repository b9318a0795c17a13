-- Whether a call in bytes is covered: the answers at work, what they say, and the stages of `covers`.
pub mod AtWork
pub mod Layers
pub mod Fitting
pub mod Exactly
pub mod Meaning
pub mod Numbered
pub mod Promises
pub mod Stages
