-- Whether a call in bytes is in the family that a certificate in bytes proves: what `covers` answers, and when each answer is right.
pub mod Asking
pub mod Covered
pub mod Told
pub mod Stages
