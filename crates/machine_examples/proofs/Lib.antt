-- Shown: the examples come out. Breaking: the broken machines are broken, and their neighbours sound.
pub mod Shown
pub mod Breaking
