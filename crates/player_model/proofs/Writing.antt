-- Texts written one after another: a part behind what is written makes the longer text (writes_then).
-- Assumes nothing.
use mathlib.Core.List.{List, [], ◌++◌}
use mathlib.Core.Path.{◌≡◌, refl, sym, ap, ap₂, ◌∙◌}
use Prim.Native.Nat.{ℕ}
use native.Mathlib.Omega.{arith}
use lib.ListN.{length, length-append}
use lib.Seq.{sets, length-sets}
use Rattle.text.proofs.Stores.{sets_append}
use Rattle.player_model.specs.Playing.{Writes}

pub writes_then : {out mid into xs ys : List ℕ} {at m e : ℕ} → Writes out at xs mid m → Writes mid m ys into e
    → Writes out at (xs ++ ys) into e
writes_then {out} {mid} {into} {xs} {ys} {at} {m} {e} f g =
    record {
      ended = omega (arith, length-append xs ys);
      written =
          g.written ∙ ap₂ (λ (l : List ℕ) (k : ℕ). sets l k ys) f.written f.ended ∙ sym (sets_append out at xs ys);
    }

-- nothing is written
pub writes_none : (l : List ℕ) (a : ℕ) → Writes l a [] l a
writes_none l a = record { ended = omega arith; written = refl }

-- the length stays
pub writes_length : {out bytes into : List ℕ} {at e : ℕ} → Writes out at bytes into e → length into ≡ length out
writes_length {out} {bytes} {into} {at} w = ap length w.written ∙ length-sets out at bytes
