-- The meaning of the window machine: programs, the window, the calls over any engine and over the buffer, their contracts, the
-- tests that every call begins with, and when two machines count as equal. Examples and broken machines are in the crate machine_examples.
pub mod Program
pub mod Window
pub mod Over
pub mod Calls
pub mod Contract
pub mod Tests
pub mod Same
