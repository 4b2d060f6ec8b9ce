-- The sequential run, the record of a list of calls, and examples.
pub mod Sequential
pub mod Play
pub mod Examples
