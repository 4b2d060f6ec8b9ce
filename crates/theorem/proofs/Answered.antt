-- 02: "Execute passes it up through machine, commit and finish." A commit answers the distance that the execution of its entry
-- answered in that list of calls, and of a load the value (PassesUp): after single calls (passed_up), for each commit of any
-- calls, called or repeated by a finish (commit_passes), and of the calls of an opened machine, read off their own answers
-- (calls_passed_up). The record of any calls is that of their single ones (Unrolled).
--
-- What is told of the live entries is at all times what the entries themselves have of it (told_kept): an execution puts the
-- numbers that it answers into its entry, the other entries keep theirs, and both lists are cut alike. Nothing is asked of the
-- state but that the window was empty at first.
-- Assumes nothing.
use mathlib.Core.Path.{◌≡◌, refl, sym, subst, ap, ap₂, ◌∙◌}
use mathlib.Core.Bool.{Bool, true, false, cond, not}
use mathlib.Core.List.{List, [], ◌∷◌, ◌++◌, map}
use mathlib.Core.Option.{none, some}
use Prim.Native.Nat.{ℕ, zero, suc}
use native.Mathlib.Omega.{arith}
use lib.Dec.{eqb, leb, ltb}
use lib.ListN.{length, get_or, take, drop, set, length-map, length-set, get_or-map}
use lib.Seq.{take_all}
use borrow.Author.Tests.{eqb-true, ltb-false}
use Rattle.engine.specs.Contract.{done, committed}
use Rattle.engine.specs.Conditions.{refusal}
use Rattle.engine.proofs.Refusing.{passes}
use Rattle.machine_model.specs.declared.Instruction.{Instruction}
use Rattle.machine_model.specs.declared.Instruction.TheVariants.{Add, Sum, Load, Store, Byte, Half}
use Rattle.machine_model.specs.declared.Kind.{Kind}
use Rattle.machine_model.specs.declared.Kind.TheVariants.{Computing, Loading, Storing, Merging}
use Rattle.machine_model.specs.declared.Fate.{Fate}
use Rattle.machine_model.specs.declared.Fate.TheVariants.{Waiting, Executed}
use Rattle.machine_model.specs.declared.Entry.{Entry}
use Rattle.machine_model.specs.Program.{code_of, kind}
use Rattle.machine_model.specs.Window.{blank_entry, entry_at, entry_with, pending, register_seen}
use Rattle.machine_model.specs.Over
use Rattle.machine_model.specs.Over.{Engine, Realization, Plain, Result, Call, issue, execute, squash, commit, finish, Answer}
use Rattle.machine_model.specs.Over.{fits_program, value_by, answer_by, known, unknown, Meets, Opens}
use Rattle.sequential.specs.Play.{Played, plays, play, start, answers_of}
use Rattle.theorem.specs.Life.{Life}
use Rattle.theorem.specs.Unrolled.{Single, Singles, unrolled}
use Rattle.theorem.specs.Answered.{Told, silent, told, unsquashed, tells, told_after, oldest, PassesUp}
use Rattle.sequential.proofs.Linking.{comes_known}
use Rattle.sequential.proofs.Finishing.{either}
use Rattle.theorem.proofs.Closing.{from_opening, done_opens}
use Rattle.theorem.proofs.Unrolled.{turned_down, singles_first, unrolled_single}

-- ---- a list's image, cut alike
module _ {A B : Type 0} (f : A → B) where
  map_snoc : (l : List A) (a : A) → map f (l ++ (a ∷ [])) ≡ map f l ++ (f a ∷ [])
  map_snoc [] a = refl
  map_snoc (x ∷ l) a = ap (λ (m : List B). f x ∷ m) (map_snoc l a)

  map_take : (n : ℕ) (l : List A) → map f (take n l) ≡ take n (map f l)
  map_take zero l = refl
  map_take (suc n) [] = refl
  map_take (suc n) (x ∷ l) = ap (λ (m : List B). f x ∷ m) (map_take n l)

  map_rest : (l : List A) → map f (drop 1 l) ≡ drop 1 (map f l)
  map_rest [] = refl
  map_rest (x ∷ l) = refl

  map_set : (l : List A) (i : ℕ) (a : A) → map f (set l i a) ≡ set (map f l) i (f a)
  map_set [] i a = refl
  map_set (x ∷ l) zero a = refl
  map_set (x ∷ l) (suc i) a = ap (λ (m : List B). f x ∷ m) (map_set l i a)

-- ---- what an entry has of its execution's answer
abbrev kept_by : Instruction → Fate → ℕ → Told
kept_by i Waiting d = silent
kept_by i (Executed v a) d = told (answer_by (kind i) v) (answer_by (kind i) d)

abbrev kept : Entry → Told
kept e = kept_by e.instruction e.fate e.distance

executed_kept : (i : Instruction) (f : Fate) (d : ℕ) → pending f ≡ false
    → kept_by i f d ≡ told (answer_by (kind i) (value_by f)) (answer_by (kind i) d)
executed_kept i Waiting d e = absurd (let z : ◌≡◌ {A = ℕ} 0 1 = cc in omega arith)
executed_kept i (Executed v a) d e = refl

-- a number that is answered of a load is answered once more as it is
answer_twice : (k : Kind) (n : ℕ) → answer_by k (answer_by k n) ≡ answer_by k n
answer_twice Computing n = refl
answer_twice Loading n = refl
answer_twice Storing n = refl
answer_twice Merging n = refl

-- a load's number is answered, of other codes 0
answer_code : (i : Instruction) (v : ℕ) → answer_by (kind i) v ≡ cond (eqb (code_of i) 3) v 0
answer_code (Add d s imm) v = refl
answer_code (Sum d s k) v = refl
answer_code (Load d s imm) v = refl
answer_code (Store d s imm) v = refl
answer_code (Byte d s imm) v = refl
answer_code (Half d s imm) v = refl

-- the first `left` stay, whether the answer names that position or, where all stay, none
squashed_gone : (left n : ℕ) (ts : List Told) → length ts ≡ n → unsquashed (cond (ltb left n) (some left) none) ts ≡ take left ts
squashed_gone left n ts same = go (ltb left n) refl
  where
    go : (t : Bool) → ltb left n ≡ t → unsquashed (cond t (some left) none) ts ≡ take left ts
    go true e = refl
    go false e = sym (take_all left ts (omega (arith, ltb-false left n e)))

-- ---- one call

-- what is told after a call with this result is again what the entries have
abbrev Tells : {S : Type 0} → Plain S → Call → Result S → Type 0
Tells X c r = tells (map kept X.entries) c r.answer ≡ map kept r.state.entries

module _ {O S : Type 0} (E : Engine O S) (program : List ℕ) where
  executing_tells : (X : Plain S) (memory : List ℕ) (p left : ℕ) (f : Fate) → pending f ≡ false
      → Tells X (execute p) (Over.executing E X memory p f left)
  executing_tells X memory p left f w =
      let es = X.entries in
      let i = (entry_at es p).instruction in
      let d = Over.load_distance E X p f in
      let e = entry_with (entry_at es p) f d in
      let v = answer_by (kind i) (value_by f) in
      let same : told v d ≡ kept e = sym (executed_kept i f d w ∙ ap (told v) (answer_twice (kind i) _)) in
      squashed_gone left (length es) _ (length-set (map kept es) p _ ∙ length-map es kept)
      ∙ ap (λ (t : Told). take left (set (map kept es) p t)) same
      ∙ ap (take left) (sym (map_set kept es p e))
      ∙ sym (map_take kept left (set es p e))

  -- the result of an execution that passed its checks has a fate that does not wait
  execution_tells : (X : Plain S) (memory : List ℕ) (p : ℕ)
      → Tells X (execute p) (Over.executions E program X memory p)
  execution_tells X memory p = go (eqb (refusal (Over.execute_checks E program X memory p)) 0) refl
    where
      f : Fate
      f = known (Over.evaluated E X memory p)

      ran : Result S
      ran = Over.executing E X memory p f (Over.survivors_of E X memory p f)

      fate_known : refusal (Over.execute_checks E program X memory p) ≡ 0 → pending f ≡ false
      fate_known z =
          let three = passes (not (eqb (length memory) (E.words X.buffer))) 2 _ z in
          let four = passes (not (fits_program program X)) 3 _ three.1 in
          let seven = passes (leb (length X.entries) p) 6 _ four.1 in
          let eight = passes (not (pending (entry_at X.entries p).fate)) 7 _ seven.1 in
          comes_known (entry_at X.entries p).instruction
          (λ (k : ℕ). register_seen (take p X.entries) k (some (get_or X.registers k 0)))
          (E.sees X.buffer X.entries memory p) (passes (unknown (Over.evaluated E X memory p)) 8 _ eight.1).0

      go : (t : Bool) → eqb (refusal (Over.execute_checks E program X memory p)) 0 ≡ t
          → Tells X (execute p) (cond t ran (turned_down (refusal (Over.execute_checks E program X memory p)) X memory []))
      go true e =
          executing_tells X memory p (Over.survivors_of E X memory p f) f
          (fate_known (eqb-true (refusal (Over.execute_checks E program X memory p)) 0 e))
      go false e = refl

  call_tells : (c : Call) → Single c → (X : Plain S) (memory : List ℕ)
      → Tells X c (Over.respond E program c X memory)
  unfolding Over.respond
  call_tells issue s X memory =
      either (Tells X issue) (eqb (refusal (Over.issue_checks E program X)) 0) (sym (map_snoc kept X.entries _)) refl
  call_tells (execute p) s X memory = execution_tells X memory p
  call_tells (squash p) s X memory =
      either (Tells X (squash p)) (eqb (refusal (Over.squash_checks E program X p)) 0) (sym (map_take kept p X.entries)) refl
  call_tells commit s X memory =
      either (Tells X commit) (eqb (refusal (Over.commit_checks E program X memory)) 0) (sym (map_rest kept X.entries)) refl
  call_tells (finish k list) s X memory = absurd s

  -- ---- single calls, one after the other
  told_kept : (x : Played S) (cs : List Call) → Singles cs
      → told_after (map kept x.state.entries) cs (answers_of E program x cs) ≡ map kept (play E program x cs).state.entries
  unfolding told_after answers_of play
  told_kept x [] s = refl
  told_kept x (c ∷ cs) s =
      ap (λ (ts : List Told). told_after ts cs (answers_of E program (plays E program x c) cs))
      (call_tells c s.0 x.state x.memory)
      ∙ told_kept (plays E program x c) cs s.1

  -- what the oldest has where its commit is accepted
  commit_kept : (X : Plain S) (memory : List ℕ) (i c r v d : ℕ)
      → (Over.commits E program X memory).answer ≡ committed i c r v d
      → oldest (map kept X.entries) ≡ told (cond (eqb c 3) v 0) d
  commit_kept X memory i c r v d = go (eqb (refusal (Over.commit_checks E program X memory)) 0) refl
    where
      e : Entry
      e = entry_at X.entries 0

      executed_there : refusal (Over.commit_checks E program X memory) ≡ 0 → pending e.fate ≡ false
      executed_there z =
          let three = passes (not (eqb (length memory) (E.words X.buffer))) 2 _ z in
          let four = passes (not (fits_program program X)) 3 _ three.1 in
          let eleven = passes (eqb (length X.entries) 0) 10 _ four.1 in
          (passes (pending e.fate) 11 _ eleven.1).0

      go : (t : Bool) → eqb (refusal (Over.commit_checks E program X memory)) 0 ≡ t
          → (cond t (Over.committing E X memory) (turned_down (refusal (Over.commit_checks E program X memory)) X memory [])).answer
          ≡ committed i c r v d
          → oldest (map kept X.entries) ≡ told (cond (eqb c 3) v 0) d
      go true z says =
          let code : code_of e.instruction ≡ c = cc in
          let value : value_by e.fate ≡ v = cc in
          let far : answer_by (kind e.instruction) e.distance ≡ d = cc in
          get_or-map kept X.entries 0 blank_entry
          ∙ executed_kept e.instruction e.fate e.distance
          (executed_there (eqb-true (refusal (Over.commit_checks E program X memory)) 0 z))
          ∙ ap₂ told (answer_code e.instruction (value_by e.fate) ∙ ap₂ (λ (k w : ℕ). cond (eqb k 3) w 0) code value) far
      go false z says = absurd (let y : ◌≡◌ {A = ℕ} 0 1 = cc in omega arith)

  -- after single calls from an empty window
  pub passed_up : (x : Played S) → x.state.entries ≡ [] → (cs : List Call) → Singles cs
      → (i c r v d : ℕ)
      → (Over.respond E program commit (play E program x cs).state (play E program x cs).memory).answer ≡ committed i c r v d
      → PassesUp (oldest (told_after [] cs (answers_of E program x cs))) c v d
  unfolding Over.respond
  passed_up x empty cs s i c r v d says =
      let y = play E program x cs in
      let all =
      ap (λ (es : List Entry). told_after (map kept es) cs (answers_of E program x cs)) (sym empty) ∙ told_kept x cs s in
      ap oldest all ∙ commit_kept y.state y.memory i c r v d says

  -- every commit among the single calls of any calls, called or repeated by a finish
  pub commit_passes : (x : Played S) → x.state.entries ≡ [] → (cs pre post : List Call)
      → unrolled E program x cs ≡ pre ++ (commit ∷ post)
      → (i c r v d : ℕ)
      → (Over.respond E program commit (play E program x pre).state (play E program x pre).memory).answer ≡ committed i c r v d
      → PassesUp (oldest (told_after [] pre (answers_of E program x pre))) c v d
  commit_passes x empty cs pre post is =
      passed_up x empty pre (singles_first pre (commit ∷ post) (subst Singles is (unrolled_single E program x cs)))

-- of the calls of an opened machine, each as its contract says: what is told is read off their own answers
pub calls_passed_up : {O S : Type 0} {E : Engine O S} {R : Realization E} {o : O} {program w : List ℕ} {m : R.Machine}
    (opens : Opens R o program w done m) {cs : List Call} {answers : List Answer} {u : R.Machine} {v record' : List ℕ} {k : ℕ}
    (life : Life R program m w cs answers u v record' k)
    → Singles cs
    → (i c r value d : ℕ) {x : R.Machine} {y list : List ℕ}
    → Meets R program u commit v (committed i c r value d) x y list
    → PassesUp (oldest (told_after [] cs answers)) c value d
calls_passed_up {S = S} {E = E} {R = R} {program = program} {w = w} {m = m} opens {cs = cs} life s i c r value d meets =
    let f = from_opening opens life in
    let empty = ap (λ (X : Plain S). X.entries) (opens.state (done_opens opens)).1 in
    let says = meets.answer f.sound
    ∙ ap (λ (z : Played S). (Over.respond E program commit z.state z.memory).answer) f.played
    in
    subst (λ (l : List Answer). PassesUp (oldest (told_after [] cs l)) c value d) (sym f.said)
    (passed_up E program (start (R.plain m) w) empty cs s i c r value d (sym says))
