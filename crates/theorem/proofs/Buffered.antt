-- The buffer meets what an engine owes. Its references are beside the window's entries, position by position (Paired), and faithful:
-- each load side holds the word that its reference sees (crates/lookup/proofs/Faithfully.antt says why a load is right that a
-- store spares). References move with the entries in each of the four moves, so both hold again; what an execution spares of
-- references it spares of their entries. With a stage and a row at least, an empty window has room and the oldest never stalls.
-- Assumes nothing.
use mathlib.Core.Bool.{true, false}
use mathlib.Core.List.{List, [], ◌∷◌, ◌++◌}
use mathlib.Core.Path.{◌≡◌, refl, sym, ap, subst, ◌∙◌}
use Prim.Native.Nat.{ℕ, suc, ◌-◌, ◌<◌}
use native.Mathlib.Nat.{not-suc-le-zero}
use native.Mathlib.Omega.{arith}
use lib.ListN.{length, get_or, take, drop, set}
use lib.Seq.{take-set-lt}
use borrow.Author.Tests.{ne_eqb}
use Rattle.table.specs.Limits.{sizes_fit}
use Rattle.table.specs.Reference
use Rattle.table.specs.Reference.{State, waiting, Ref, ref, blank, number_of, fate_of, at}
use Rattle.table.proofs.Sizes.{Sizes, sizes}
use Rattle.lookup.specs.Forwarding.{seen, forwarded}
use Rattle.lookup.specs.Outcome.{survivors, executes}
use Rattle.lookup.specs.Computed.Faithful.{Faithful}
use Rattle.lookup.proofs.Forwards.{seen_next}
use Rattle.lookup.proofs.Faithfully.{faithful_more, faithful_next, faithful_take, faithful_drop, faithful_set}
use Rattle.engine.proofs.Written.{seen_written}
use Rattle.engine.specs.Execution.{written}
use Rattle.engine.specs.Conditions.{faults}
use Rattle.machine_model.specs.declared.Fate.{Fate}
use Rattle.machine_model.specs.declared.Fate.TheVariants.{Waiting}
use Rattle.machine_model.specs.declared.Entry.{Entry}
use Rattle.machine_model.specs.Window.{entry_at, entry_with, pending, reference_by, untold, reference}
use Rattle.machine_model.specs.Calls.{Opening, banked, buffered}
use Rattle.machine_model.proofs.OldestReady.{oldest_leaves}
use Rattle.sequential.proofs.Core.{seen_by}
use Rattle.sequential.proofs.Each.{Each, each_next, each_take, each_drop, each_set}
use Rattle.sequential.proofs.Owing.{Spared, Owes}
use Rattle.theorem.proofs.Paired.{Fated, seen_paired, owed, wordless_reference, took_reference, spares_paired}
use Rattle.theorem.proofs.Paired.{pending_waiting, pending_idle, faults_wordless, written_wordless}

-- sizes lie in their limits, references and entries are paired, and each load side holds the word that its reference sees
pub record Bound (P : State) (es : List Entry) (w : List ℕ) : Type 0 where
  pub sized : sizes_fit P.banks P.rows P.stages P.words ≡ true
  pub paired : Each blank Fated P.refs es
  pub faithful : Faithful (λ (a : ℕ). get_or w a 0) P.refs

opened_bound : (o : Opening) → buffered.fits o ≡ true → (w : List ℕ) → Bound (buffered.opening o) [] w
opened_bound (banked banks rows stages words) fit w =
    record { sized = fit; paired = (refl, λ p h. absurd (not-suc-le-zero h)); faithful = tt }

module _ (P : State) (es : List Entry) (w : List ℕ) (b : Bound P es w) where
  size : Sizes P.banks P.rows P.stages P.words
  size = sizes P.banks P.rows P.stages P.words b.sized

  issued_bound : (e : Entry) → e.fate ≡ Waiting → Bound (buffered.issued P) (es ++ (e ∷ [])) w
  issued_bound e idle =
      record {
        sized = b.sized;
        paired = each_next blank Fated P.refs es b.paired (ref P.next waiting) e
            (sym (ap (reference_by untold e.instruction) idle));
        faithful = faithful_next P.refs P.next _ b.faithful;
      }

  squashed_bound : (p : ℕ) → Bound (buffered.squashed P p) (take p es) w
  squashed_bound p =
      record {
        sized = b.sized;
        paired = each_take blank Fated P.refs es b.paired p;
        faithful = faithful_take p P.refs _ b.faithful;
      }

  module _ (p : ℕ) (live : p < length es) (idle : pending (entry_at es p).fate ≡ true) where
    -- its reference has not executed either
    reference_idle : Reference.idle (fate_of (at P.refs p)) ≡ true
    reference_idle = pending_idle (at P.refs p) (entry_at es p) (b.paired.1 p live) idle

    executed_bound : (x : Fate) (d : ℕ)
        → let f = reference_by (forwarded P w p) (entry_at es p).instruction x in
        let left = survivors P p f in
        (left ≡ 0 → ⊥)
        → Spared es w p left x × Bound (executes P p f) (take left (set es p (entry_with (entry_at es p) x d))) w
    executed_bound x d runs =
        let refs = P.refs in
        let i = (entry_at es p).instruction in
        let μ = forwarded P w p in
        let left = survivors P p (reference_by μ i x) in
        let r : Ref = ref (number_of (at (take left refs) p)) (reference_by μ i x) in
        let e = entry_with (entry_at es p) x d in
        let o = owed P w b.faithful p (omega (arith, b.paired.0)) reference_idle (reference_by μ i x) runs in
        let sees : (a : ℕ) → μ a ≡ seen_by (take p es) a (get_or w a 0) = λ a.
        seen_paired (take p refs) (take p es) a (get_or w a 0) (each_take blank Fated refs es b.paired p) in (
          record {
            after = o.after;
            within = omega (arith, o.within, b.paired.0);
            spares = spares_paired μ i _ (take (left - suc p) (drop (suc p) refs)) (take (left - suc p) (drop (suc p) es)) x sees
                (each_take blank Fated (drop (suc p) refs) (drop (suc p) es)
                (each_drop blank Fated refs es b.paired (suc p)) (left - suc p))
                o.spares;
          },
          record {
            sized = b.sized;
            paired = rw (take-set-lt left es p e o.after)
                (each_set blank Fated (take left refs) (take left es) (each_take blank Fated refs es b.paired left) p r e
                (wordless_reference μ i x));
            faithful = subst (Faithful (λ (a : ℕ). get_or w a 0)) (take-set-lt left refs p r o.after)
                (faithful_set p left refs r (λ (a : ℕ). get_or w a 0) o.after reference_idle (took_reference μ i x) o.spares
                b.faithful);
          },
        )

  retired_bound : (length es ≡ 0 → ⊥) → faults (length w) (reference (entry_at es 0)) ≡ false
      → let f = fate_of (at P.refs 0) in
      (written w f ≡ written w (reference (entry_at es 0))) × Bound (buffered.retired P) (drop 1 es) (written w f)
  unfolding seen
  retired_bound live clean =
      let refs = P.refs in
      let f = fate_of (at refs 0) in
      let fate = b.paired.1 0 (omega arith) in
      let fine : faults (length w) f ≡ false = faults_wordless (length w) f ∙ ap (faults (length w)) fate ∙ clean in (
        written_wordless w f ∙ ap (written w) fate,
        record {
          sized = b.sized;
          paired = each_drop blank Fated refs es b.paired 1;
          faithful = faithful_more (drop 1 refs) _ _
              (λ a _. seen_next refs 0 a (get_or w a 0) (omega (arith, b.paired.0)) ∙ seen_written w f a fine)
              (faithful_drop 1 refs _ b.faithful);
        },
      )

pub buffer_owes : Owes buffered
buffer_owes =
    record {
      Bound = Bound;
      bound_opened = opened_bound;
      words_issued = λ P. refl;
      words_executed = λ P p f. refl;
      words_squashed = λ P p. refl;
      words_retired = λ P. refl;
      sees = λ P es w b p a.
          seen_paired (take p P.refs) (take p es) a (get_or w a 0) (each_take blank Fated P.refs es b.paired p);
      bound_issued = λ P es w b full. issued_bound P es w b;
      bound_squashed = squashed_bound;
      executes = executed_bound;
      commits = retired_bound;
      room = λ P es w b empty. ne_eqb (length es) P.stages (λ full. omega (arith, (size P es w b).some_stage));
      oldest_runs = λ P es w b live idle.
          oldest_leaves P (size P es w b).some_row (omega (arith, b.paired.0))
          (pending_waiting (at P.refs 0) (entry_at es 0) (b.paired.1 0 live) idle);
    }
