-- THE RECORD THEOREM OF THE CALLS of a machine over any engine that owes what Owing.antt asks, from their contracts alone. Let an
-- opening with a program and a memory w say `done` and hand back machine m. From there let any calls cs be made, refused ones among them, each as its
-- contract says, and lead to machine u and memory v, with a record and k commits read off the answers. These are true of the
-- sequential run of the program from w (CallsTruth).
--
-- A call on a sound machine does to its plain state what the plain call does, with the same answer, and hands back a sound
-- machine. So calls made from a state of the play follow the play of the same calls (Follows), and what Record says of that
-- one is said of them. An opening that says `done` was not refused, so m is sound and its plain state is the opened one.
-- Further calls make one life with those before them (life_join), so what is said of every life is said after them too.
-- Assumes nothing.
use mathlib.Core.Path.{◌≡◌, refl, sym, subst, ap, ap₂, ◌∙◌}
use mathlib.Core.Bool.{true, false}
use mathlib.Core.List.{List, [], ◌∷◌, ◌++◌, append-nil, append_assoc}
use Prim.Native.Nat.{ℕ, suc, ◌+◌, ◌≤◌}
use native.Mathlib.Nat.{add-zero, zero-add, add_assoc}
use native.Mathlib.Omega.{arith}
use lib.ListN.{length}
use Rattle.engine.specs.Contract.{done}
use Rattle.engine.specs.Conditions.{refusal}
use Rattle.engine.proofs.Deciding.{accepted_passes}
use Rattle.machine_model.specs.Over.{Engine, Realization, Plain, Call, Answer, respond, open_checks, Meets, Opens}
use Rattle.sequential.specs.Sequential.{run_after, ends}
use Rattle.sequential.specs.Play.{recorded, without, commits_in, Played, plays, play, start, needed, none_refused, answers_of}
use Rattle.theorem.specs.Life.{Life, born, lived}
use Rattle.theorem.specs.Truth.{Truth, CallsTruth}
use Rattle.sequential.proofs.Sentences.{Unrefused, none_unrefused}
use Rattle.sequential.proofs.Owing.{Owes}
use Rattle.theorem.proofs.Record.{after, record_theorem}

-- machine u and memory v in the play, with this record and n commits
abbrev pub reached : {O S : Type 0} {E : Engine O S} (R : Realization E) → R.Machine → List ℕ → List ℕ → ℕ → Played S
reached R u v record' n = record { state = R.plain u; memory = v; record' = record'; commits = n }

-- Calls cs that led to machine u and memory v, with these answers, this record and n commits, go on from x as the play does.
pub record Follows {O S : Type 0} {E : Engine O S} (R : Realization E) (program : List ℕ) (x : Played S) (cs : List Call)
    (answers : List Answer) (u : R.Machine) (v record' : List ℕ) (n : ℕ) : Type 0 where
  pub sound : R.Sound u
  pub played : reached R u v (x.record' ++ record') (x.commits + n) ≡ play E program x cs
  pub said : answers ≡ answers_of E program x cs

pub same_played : {S : Type 0} {X Y : Plain S} {v w r s : List ℕ} {i j : ℕ} → X ≡ Y → v ≡ w → r ≡ s → i ≡ j
    → ◌≡◌ {A = Played S} (record { state = X; memory = v; record' = r; commits = i })
    (record { state = Y; memory = w; record' = s; commits = j })
same_played p q t h = rw (p, q, t, h)

module _ {O S : Type 0} (E : Engine O S) (program : List ℕ) where
  -- ---- the play, call by call
  pub play_append : (x : Played S) (cs ds : List Call) → play E program x (cs ++ ds) ≡ play E program (play E program x cs) ds
  unfolding play
  play_append x [] ds = refl
  play_append x (c ∷ cs) ds = play_append (plays E program x c) cs ds

  answers_snoc : (x : Played S) (cs : List Call) (c : Call)
      → answers_of E program x (cs ++ (c ∷ []))
      ≡ answers_of E program x cs ++ ((respond E program c (play E program x cs).state (play E program x cs).memory).answer ∷ [])
  unfolding play answers_of
  answers_snoc x [] c = refl
  answers_snoc x (b ∷ cs) c =
      ap (λ l. (respond E program b x.state x.memory).answer ∷ l) (answers_snoc (plays E program x b) cs c)

module _ {O S : Type 0} {E : Engine O S} (R : Realization E) (program : List ℕ) where
  -- ---- a life follows the play
  meets_plays : {u x : R.Machine} {v y list : List ℕ} {said : Answer} (c : Call) (r : List ℕ) (n : ℕ) → R.Sound u
      → Meets R program u c v said x y list
      → reached R x y (r ++ recorded said list) (n + commits_in said) ≡ plays E program (reached R u v r n) c
  meets_plays c r n s h =
      same_played (h.state s) (h.memory s) (ap₂ (λ a l. r ++ recorded a l) (h.answer s) (h.list s))
      (ap (λ a. n + commits_in a) (h.answer s))

  pub follows : {m : R.Machine} {w : List ℕ} {cs : List Call} {answers : List Answer} {u : R.Machine} {v record' : List ℕ} {k : ℕ}
      (r : List ℕ) (n : ℕ)
      → R.Sound m
      → Life R program m w cs answers u v record' k
      → Follows R program (reached R m w r n) cs answers u v record' k
  unfolding play answers_of
  follows r n s born = record { sound = s; played = same_played refl refl (append-nil r) (add-zero n); said = refl }
  follows {m} {w} r n s (lived {cs = cs} {record' = record'} {list = list} {n = k} {said = said} c life h) =
      let f = follows r n s life in
      let x = reached R m w r n in
      record {
        sound = h.lawful f.sound;
        played = same_played refl refl (sym (append_assoc r record' (recorded said list))) (sym (add_assoc n k (commits_in said)))
            ∙ meets_plays c (r ++ record') (n + k) f.sound h
            ∙ ap (λ z. plays E program z c) f.played
            ∙ sym (play_append E program x cs (c ∷ []));
        said = ap₂ (λ l a. l ++ (a ∷ [])) f.said
            (h.answer f.sound ∙ ap (λ z. (respond E program c z.state z.memory).answer) f.played)
            ∙ sym (answers_snoc E program x cs c);
      }

-- two lives in a row are one
pub life_join : {O S : Type 0} {E : Engine O S} {R : Realization E} {program : List ℕ} {m u : R.Machine} {w v : List ℕ} {x : R.Machine} {y : List ℕ} {cs₁ cs₂ : List Call} {answers₁ answers₂ : List Answer}
    {record₁ record₂ : List ℕ} {k j : ℕ}
    → Life R program m w cs₁ answers₁ u v record₁ k
    → Life R program u v cs₂ answers₂ x y record₂ j
    → Life R program m w (cs₁ ++ cs₂) (answers₁ ++ answers₂) x y (record₁ ++ record₂) (k + j)
life_join {cs₁ = cs₁} {answers₁ = answers₁} {record₁ = record₁} {k = k} life born =
    rw (append-nil cs₁, append-nil answers₁, append-nil record₁, add-zero k) life
life_join {cs₁ = cs₁} {answers₁ = answers₁} {record₁ = record₁} {k = k} life
    (lived {cs = cs} {answers = answers} {record' = record'} {list = list} {n = n} {said = said} c more h) =
    rw (
      ← append_assoc cs₁ cs (c ∷ []),
      ← append_assoc answers₁ answers (said ∷ []),
      ← append_assoc record₁ record' (recorded said list),
      ← add_assoc k n (commits_in said),
    ) (lived c (life_join life more) h)

-- ---- from an opening

-- one that says `done` was not refused
pub done_opens : {O S : Type 0} {E : Engine O S} {R : Realization E} {o : O} {program w : List ℕ} {m : R.Machine}
    → Opens R o program w done m
    → refusal (open_checks E o program w) ≡ 0
done_opens {E = E} {o = o} {program = program} {w = w} h =
    accepted_passes (open_checks E o program w) done tt (λ some. (h.refuses _ some refl).0)

module _ {O S : Type 0} {E : Engine O S} {R : Realization E} {o : O} {program w : List ℕ} {m : R.Machine}
    (opens : Opens R o program w done m) {cs : List Call}
    {answers : List Answer} {u : R.Machine} {v record' : List ℕ} {k : ℕ} (life : Life R program m w cs answers u v record' k) where
  pub from_opening : Follows R program (start (R.plain m) w) cs answers u v record' k
  from_opening = follows R program [] 0 (opens.state (done_opens opens)).0 life

  -- the plain state of the machine in the play
  abbrev pub there : Played S
  there = reached R u v record' k

  -- what holds where the calls lead in the play holds of it
  pub holds_there : (P : Played S → Type 0) → P (after E o program w cs) → P there
  holds_there P h =
      subst P (sym from_opening.played ∙ same_played refl refl refl (zero-add k))
      (subst (λ X. P (play E program (start X w) cs)) (sym (opens.state (done_opens opens)).1) h)

module _ {O S : Type 0} {E : Engine O S} (owes : Owes E) {R : Realization E} {o : O} {program w : List ℕ} {m : R.Machine}
    (opens : Opens R o program w done m) {cs : List Call} {answers : List Answer} {u : R.Machine} {v record' : List ℕ} {k : ℕ}
    (life : Life R program m w cs answers u v record' k) where
  plain_truth : Truth E program w (there opens life)
  plain_truth = holds_there opens life (Truth E program w) (record_theorem owes o program w (done_opens opens) cs)

  -- further calls go on from there
  from_there : {cs₂ : List Call} {answers₂ : List Answer} {x : R.Machine} {y record₂ : List ℕ} {j : ℕ}
      → Life R program u v cs₂ answers₂ x y record₂ j
      → Follows R program (there opens life) cs₂ answers₂ x y record₂ j
  from_there more = follows R program record' k (from_opening opens life).sound more

  pub calls_theorem : CallsTruth R program w u v record' k
  calls_theorem =
      record {
        record_is = plain_truth.record_is;
        record_grows = plain_truth.record_grows;
        registers_are = plain_truth.registers_are;
        memory_is = plain_truth.memory_is;
        goes_on = λ e more.
            let f = from_there more in
            let g = plain_truth.goes_on e in (
              ap none_refused f.said ∙ g.0,
              g.1,
              omega (arith, ap (λ z. z.commits) f.played, g.2),
              ap (λ z. without z.record') f.played ∙ g.3,
            );
        stops = λ e {cs = later} more.
            omega (arith, ap (λ z. z.commits) (from_there more).played, plain_truth.stops e later);
      }

-- Lives in a row are one, so the theorem holds again after further calls. As long as the run has not ended, the calls that u
-- needs, three at most, none of them refused, lead to the run after its next step; once it has, any calls leave it there.
module _ {O S : Type 0} {E : Engine O S} (owes : Owes E) {R : Realization E} {o : O} {program w : List ℕ} {m : R.Machine}
    (opens : Opens R o program w done m) {cs : List Call}
    {answers : List Answer} {u : R.Machine} {v record' : List ℕ} {k : ℕ} (life : Life R program m w cs answers u v record' k)
    {answers₂ : List Answer} {x : R.Machine} {y more : List ℕ} {j : ℕ} where
  pub calls_next : ends program (run_after program w k) ≡ false → Life R program u v (needed program (R.plain u)) answers₂ x y more j
      → (length (needed program (R.plain u)) ≤ 3) × Unrefused answers₂ × CallsTruth R program w x y (record' ++ more) (suc k)
  calls_next e later =
      let g = (calls_theorem owes opens life).goes_on e later in
      let one : k + j ≡ suc k = omega (arith, g.2) in (
        omega (arith, g.1),
        none_unrefused answers₂ g.0,
        subst (CallsTruth R program w x y (record' ++ more)) one (calls_theorem owes opens (life_join life later)),
      )

  pub calls_over : {cs₂ : List Call} → ends program (run_after program w k) ≡ true → Life R program u v cs₂ answers₂ x y more j
      → CallsTruth R program w x y (record' ++ more) k
  calls_over e later =
      let none : k + j ≡ k = omega (arith, (calls_theorem owes opens life).stops e later) in
      subst (CallsTruth R program w x y (record' ++ more)) none (calls_theorem owes opens (life_join life later))
