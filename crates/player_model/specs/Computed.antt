-- How the player computes, and what holds of it between its calls: nothing that a reader has to believe.
pub mod Parts
