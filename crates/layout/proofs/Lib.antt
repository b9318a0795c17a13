-- The laws of reading and writing.
pub mod FileEnds
pub mod Copying
pub mod Answering
pub mod Opens
pub mod Giving
pub mod GoodFiles
pub mod Besides
pub mod Findings
pub mod RoundTrips
pub mod FirstFaults
pub mod OneAnswer
pub mod CallTrips
pub mod OneFile
