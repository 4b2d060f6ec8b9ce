-- Cases: the examples come out. Sentences: what a refusal is, and what B and H do in the run. Distances: the record without
-- them, across an append. Core: the window alone, its steps, and what is kept of it. Knowing, Keeping: each step keeps it.
-- Over any engine, Owing: what it owes; Each: a list beside the window's entries; Links, Linking: each call is steps of the
-- window; Finishing: so is a finish.
pub mod Cases
pub mod Distances
pub mod Core
pub mod Knowing
pub mod Keeping
pub mod Each
pub mod Owing
pub mod Links
pub mod Linking
pub mod Finishing
pub mod Sentences
