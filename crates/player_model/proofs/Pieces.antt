-- THE THEOREM OF THE PIECES. Begin a script with a program and a memory lent rightly, and call `fill` as often as you
-- like, each time on any buffer, with the player and the memory that the call before handed back. Write the first
-- `end` bytes of each buffer. Then at every moment what was written, followed by what is left to print, is what the
-- script prints; and once the player is over, what was written is what the script prints, byte for byte (PiecesTruth).
--
-- At the beginning all is left and nothing is written. A fill moves a piece from the front of what is left to the end
-- of what is written: the piece is the first `end` bytes of the buffer, as it was set there from place 0. A player
-- that is over has nothing left. That a player gets there is a law of StepContract: a call with room for a step on a
-- player that is not over lowers `weight` (`fills_falls`). Assumes nothing.
use mathlib.Core.Path.{◌≡◌, refl, sym, ap, ap₂, subst, ◌∙◌}
use mathlib.Core.Bool.{Bool, true, false, false≢true}
use mathlib.Core.List.{List, [], ◌∷◌, ◌++◌, append-nil, append_assoc}
use Prim.Native.Nat.{ℕ, ◌+◌, ◌≤◌}
use native.Mathlib.Omega.{arith}
use lib.ListN.{length, take, drop}
use lib.Seq.{sets, sets-eq, take-append_seam}
use Rattle.table.specs.Reference.{State}
use Rattle.sequential.specs.Play.{Played}
use Rattle.player_model.specs.declared.Phase.{Phase}
use Rattle.player_model.specs.declared.Phase.TheVariants.{Over, Bad, Stepping, Finishing, Words}
use Rattle.player_model.specs.declared.Player.{Player}
use Rattle.script_model.specs.Language.{Steps}
use Rattle.script_model.specs.Output.{printed}
use Rattle.player_model.specs.Playing.{is_over, Fills, wrongly_lent, Begins}
use Rattle.player_model.specs.Truth.{Fillings, ready, filled, joined, PiecesTruth}
use Rattle.player_model.proofs.Invariant.{left_in, left, Playing}
use Rattle.player_model.proofs.StepContract.{steps_used, steps_go}
use Rattle.player_model.proofs.Beginnings.{begins_left}

pub joined_snoc : (pieces : List (List ℕ)) (piece : List ℕ) → joined (pieces ++ (piece ∷ [])) ≡ joined pieces ++ piece
unfolding joined
joined_snoc [] piece = append-nil piece
joined_snoc (first ∷ pieces) piece =
    ap (λ (bytes : List ℕ). first ++ bytes) (joined_snoc pieces piece) ∙ sym (append_assoc first (joined pieces) piece)

-- the bytes set from place 0 on are the first of the buffer
front : (out piece into : List ℕ) (n : ℕ) → n ≡ 0 + length piece → into ≡ sets out 0 piece → n ≤ length out
    → take n into ≡ piece
front out piece into n e w h =
    let long : n ≡ length piece = omega (arith, e) in
    let room : 0 + length piece ≤ length out = omega (arith, e, h) in
    ap₂ (λ (k : ℕ) (l : List ℕ). take k l) long (w ∙ sets-eq piece out 0 room)
    ∙ take-append_seam piece (drop (0 + length piece) out)

over_left : (program : List ℕ) (phase : Phase) (more : Steps) (x : Played State) → is_over phase ≡ true
    → left_in program phase more x ≡ []
over_left program Over more x e = refl
over_left program (Bad n) more x e = absurd (false≢true e)
over_left program Stepping more x e = absurd (false≢true e)
over_left program (Finishing k) more x e = absurd (false≢true e)
over_left program (Words a) more x e = absurd (false≢true e)

-- after these pieces: what is written and what is left is what the script prints, and the player may go on
record StandsOn (text numbers : List ℕ) (pieces : List (List ℕ)) (r : Player) (w : List ℕ) : Type 0 where
  told : printed text ≡ joined pieces ++ left text numbers r w
  playing : Playing text numbers r w

-- with the program in the places that the player uses
abbrev Stands : List ℕ → List ℕ → List (List ℕ) → Player → List ℕ → Type 0
Stands text program pieces r w = StandsOn text (take r.used program) pieces r w

one_more : (text program : List ℕ) (pieces : List (List ℕ)) (q r : Player) (v w out into : List ℕ) (n : ℕ)
    → Stands text program pieces q v → Fills text program q v out r w into n
    → Stands text program (pieces ++ (take n into ∷ [])) r w
one_more text program pieces q r v w out into n s f =
    let bytes = f.bytes in
    let numbers = take q.used program in
    let rest = left text numbers r w in
    let goes = steps_go f.steps s.playing in
    let wrote = front out bytes into n f.writes.ended f.writes.written f.within in
    let same : r.used ≡ q.used = steps_used f.steps in
    subst (λ (k : ℕ). StandsOn text (take k program) (pieces ++ (take n into ∷ [])) r w) (sym same)
    (record {
      told = s.told ∙ ap (λ (l : List ℕ). joined pieces ++ l) goes.0
          ∙ sym (append_assoc (joined pieces) bytes rest)
          ∙ ap (λ (l : List ℕ). joined pieces ++ l ++ rest) (sym wrote)
          ∙ ap (λ (l : List ℕ). l ++ rest) (sym (joined_snoc pieces (take n into)));
      playing = goes.1;
    })

stands : (text program : List ℕ) (p : Player) (memory : List ℕ) → Stands text program [] p memory
    → {pieces : List (List ℕ)} {r : Player} {w : List ℕ} → Fillings text program p memory pieces r w
    → Stands text program pieces r w
stands text program p memory s ready = s
stands text program p memory s (filled run f) =
    one_more text program _ _ _ _ _ _ _ _ (stands text program p memory s run) f

module _ (text : List ℕ) (whole : Bool) (program memory : List ℕ) (q : Player) (into after : List ℕ)
    (begun : Begins text whole program memory q into after) (lent : wrongly_lent text whole program memory ≡ false)
    (pieces : List (List ℕ)) (r : Player) (w : List ℕ) (run : Fillings text into q after pieces r w) where
  -- what was written is the beginning of what the script prints, and the rest is left
  so_far : printed text ≡ joined pieces ++ left text (take r.used into) r w
  unfolding joined
  so_far =
      let start = begins_left begun lent in
      (stands text into q after (record { told = sym start.0; playing = start.1 }) run).told

  over : is_over r.phase ≡ true → joined pieces ≡ printed text
  over ends =
      sym
      (so_far ∙ ap (λ (l : List ℕ). joined pieces ++ l) (over_left (take r.used into) r.phase _ _ ends)
      ∙ append-nil (joined pieces))

  pub pieces_are : PiecesTruth text pieces r
  pieces_are = record { rest = left text (take r.used into) r w; so_far = so_far; all = over }
