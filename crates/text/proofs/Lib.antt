-- Digits: the equations of a decimal, and its length. Trip: what is written is read back, and nothing else reads as it.
-- Reader: the array of fields moves as the reading does. Stores: a text set at a place, part after part.
-- Splits: the line at an index is the first of the text's lines from there on, and a reader hands out all of them, in order.
pub mod Digits
pub mod Trip
pub mod Reader
pub mod Stores
pub mod Splits
