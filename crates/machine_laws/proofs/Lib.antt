-- Comparing: fates by their kind and place. Sized: the arrays' lengths. Agreeing: the code's test of the agreement. Operands: what
-- an instruction asks. Refusals: what the window decides of a refusal, as one number, over any engine. Checking: the validation's
-- number. PlainOfView: what a machine comes to by its table's view. Moved, Committed: the calls but opening, execute and finish.
-- Formed, Executions: execute. Fits, ChecksKept, FinishStep: finish.
pub mod Comparing
pub mod Sized
pub mod Agreeing
pub mod Operands
pub mod Refusals
pub mod Checking
pub mod PlainOfView
pub mod Moved
pub mod Committed
pub mod Formed
pub mod Executions
pub mod Fits
pub mod ChecksKept
pub mod FinishStep
