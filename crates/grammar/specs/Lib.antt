-- The two packed files: their grammars and what reading and writing them comes to.
pub mod Terms
pub mod Books
pub mod Calls
pub mod Certificates
pub mod Limits
pub mod Listing
pub mod Stated
