-- Examples of the machine's calls, and machines that break the rules.
pub mod Examples
pub mod Broken
