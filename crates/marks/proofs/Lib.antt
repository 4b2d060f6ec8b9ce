-- The laws of mark words and of the circle: Sets (words as sets), Turns (the circle), Runs (words turned around the circle),
-- Tops (the highest stage in a set), Counts (tests below a bound).
pub mod Sets
pub mod Turns
pub mod Runs
pub mod Tops
pub mod Counts
