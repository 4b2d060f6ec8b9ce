-- Laws of what crosses. Zero: the number is that of the conditions, so 0 says that the call was accepted. Told: the numbers tell
-- the answer.
pub mod Zero
pub mod Told
