-- The checksum of the answers.
pub mod Sums
