-- The script player: what its calls promise, and what is proved of its output.
pub mod Playing
pub mod Truth
pub mod Computed
