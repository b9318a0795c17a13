-- What the functions of this crate are held to.
pub mod Subjects
pub mod Found
pub mod Rights
pub mod Asked
