-- Sounding: the rules and the agreement as tests. Answering: how a contract is met, and what the validation says. Opened: how an
-- opening's is. OldestReady: the oldest stands at its stage and never stalls. Finishes: a finish as a loop, over any engine.
-- Conditions: 01's words of the conditions and of what a call does. Sentences: those of an operand, of refusal 9, of a commit's
-- numbers and of a distance. Through the contract, Ordered: a call is refused with the smallest number that holds; Answered: where
-- an execution answers 9 and 10; Outcomes: what an accepted one squashes, and what a load answers; Refetched: the next issue after
-- a squash. Equal: when two machines have one plain state.
pub mod Sounding
pub mod Answering
pub mod Opened
pub mod OldestReady
pub mod Finishes
pub mod Conditions
pub mod Sentences
pub mod Ordered
pub mod Answered
pub mod Outcomes
pub mod Refetched
pub mod Equal
