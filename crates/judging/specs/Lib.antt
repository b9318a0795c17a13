-- What the two judges promise, and what an accepted certificate leaves in the table.
pub mod Lent
pub mod Judged
pub mod Placed
