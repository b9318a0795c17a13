-- Terms that lie packed in a file, fillings in the work table, and what the walks over them answer.
pub mod Lying
pub mod Taking
pub mod Fillings
pub mod Headers
pub mod Walks
pub mod Turns
pub mod Filled
pub mod Repeats
pub mod Instances
pub mod Noting
pub mod Listings
