-- The life of an opened program, what the record theorem says, what a finish commits, a finish as single calls, and what
-- executions answered.
pub mod Life
pub mod Truth
pub mod Finish
pub mod Unrolled
pub mod Answered
