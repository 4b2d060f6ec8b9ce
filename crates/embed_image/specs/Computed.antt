-- How the code computes what specs/ says; nothing here is to be believed.
pub mod Handing
