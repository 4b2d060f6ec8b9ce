-- How the reason is found: nothing that a reader has to believe.
pub mod Looking
