-- The meaning of the buffer's calls.
pub mod Answers
pub mod Refusals
pub mod Calls
pub mod Contract
pub mod Life
pub mod Tickets
pub mod Examples
pub mod Edges
pub mod PartStores
pub mod Distances
pub mod SameWords
pub mod Damaged
pub mod Computed
