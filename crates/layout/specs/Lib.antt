-- The two files read and written: what is answered, and what the outputs hold.
pub mod Files
pub mod Answers
pub mod Promises
pub mod Openings
pub mod FirstFaults
pub mod Findings
