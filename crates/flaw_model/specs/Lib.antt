-- Bad lines: the first one of a script and its reason, and the message that tells it.
pub mod Flaw
pub mod Message
pub mod Computed
