-- What is executed, what it makes of its reference, and what its commit writes.
-- Assumes nothing.
use Rattle.std.specs.Prelude.{List, ℕ, set}
use Rattle.table.specs.Reference.{Side, lacks, holds, Fate, waiting, other, accessed, loaded, stored, merged}
use Rattle.engine.specs.declared.Action.{Action}
use Rattle.engine.specs.declared.Action.TheVariants.{Compute, LoadAt, StoreAt, PartAt}
use Rattle.engine.specs.Part.{word_of, whole}

-- The fate of a reference that executed this where the memory is seen as μ: a load keeps the word that it took. A store of a
-- part loads the word and then stores the whole of it.
abbrev pub fate_by : (ℕ → ℕ) → Action → Fate
fate_by μ (Compute v) = other
fate_by μ (LoadAt a) = loaded a (μ a)
fate_by μ (StoreAt a v) = stored a v
fate_by μ (PartAt part b v) = merged (word_of b) (μ (word_of b)) (whole part b (μ (word_of b)) v)

-- The number that its execution answers: of a load what f says of its address, else 0. For the value f is the memory as seen,
-- for the distance how far a word of it came.
abbrev pub answer_of : (ℕ → ℕ) → Action → ℕ
answer_of f (Compute v) = 0
answer_of f (LoadAt a) = f a
answer_of f (StoreAt a v) = 0
answer_of f (PartAt part b v) = 0

-- memory with a store's word at address a, if there is one
abbrev pub written_at : List ℕ → ℕ → Side → List ℕ
written_at memory a lacks = memory
written_at memory a (holds v) = set memory a v

-- memory after the commit of a reference with this fate: a store writes its word
abbrev pub written : List ℕ → Fate → List ℕ
written memory waiting = memory
written memory other = memory
written memory (accessed a l s) = written_at memory a s
