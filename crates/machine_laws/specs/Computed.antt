-- How the code computes what the calls mean: no part of the meaning. Parts: the parts of a call over the arrays lent to them.
-- Kinds: what an entry did, as a number. Steps: the machine after each step.
pub mod Parts
pub mod Kinds
pub mod Steps
