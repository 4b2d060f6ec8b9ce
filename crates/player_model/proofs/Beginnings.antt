-- What `begin` hands back meets its contract, by the way it goes: lent wrongly it is over (begins_over); a text that is too long
-- or has a bad first line prints one bad line (begins_long, begins_headless); otherwise the machine was opened as the first line
-- asks, with the script's program and zeros (begins_open). And what it hands back is the beginning of the script: all of its output is left
-- to print, and the player may go on (begins_left). For that the steps of a script begin behind as many lines as its program
-- has instructions (body_behind), and the opening passes its checks (Openings), so the machine is sound and linked. Assumes
-- nothing.
use mathlib.Core.Path.{◌≡◌, refl, sym, subst, ap, ap₂, ◌∙◌}
use mathlib.Core.Bool.{Bool, true, false, cond, not, ◌&&◌, ◌||◌, false≢true}
use mathlib.Core.List.{List, [], ◌∷◌, ◌++◌, append-nil, append_assoc}
use Prim.Native.Nat.{ℕ, zero, suc, ◌+◌, ◌-◌, ◌*◌, ◌/◌, ◌≤◌, ◌<◌, zero-le}
use native.Mathlib.Nat.{add-zero}
use native.Mathlib.Omega.{arith}
use lib.Dec.{eqb, leb, ltb}
use lib.ListN.{length, replicate, take, drop, length-append}
use lib.Seq.{take-append_seam, length-take-le}
use borrow.Author.Tests.{lt-ltb, le-ltb, ltb-true, ltb-false, eqb-true}
use Rattle.text.specs.Lines.{lines_of}
use Rattle.table.specs.Limits.{sizes_fit}
use Rattle.engine.specs.Conditions.{refusal}
use Rattle.machine_model.specs.declared.Machine.{Machine}
use Rattle.machine_model.specs.Program.{per_instruction, program_most}
use Rattle.machine_model.specs.Calls.{Opening, banked, buffered, Plain, Answer, open_checks}
use Rattle.machine_model.specs.Contract.{fresh_machine, Opens}
use Rattle.machine_model.proofs.Opened.{fresh_sound, fresh_plain}
use Rattle.sequential.specs.Play.{play, start}
use Rattle.sequential.proofs.Owing.{Linked}
use Rattle.theorem.proofs.Buffered.{buffer_owes}
use Rattle.sequential.proofs.Linking.{linked_open}
use Rattle.player_model.specs.declared.Four.{Four}
use Rattle.std.specs.Prelude.{Option, Some, None}
use Rattle.player_model.specs.declared.Phase.TheVariants.{Over, Bad, Stepping}
use Rattle.player_model.specs.declared.Player.{Player}
use Rattle.script_model.specs.Language.{Body, Script, words_asked, unread, script}
use Rattle.script_model.proofs.Longest.{printed_long, printed_short}
use Rattle.script_model.specs.Output.{commit_lines, bad_line, transcript, output, most, printed}
use Rattle.player_model.specs.Playing.{player, script_of, words_of, wrongly_lent, line_start, idle, opened_player, first_player}
use Rattle.player_model.specs.Playing.{Begins}
use Rattle.player_model.specs.Truth.{Sized, zeros}
use Rattle.player_model.specs.Computed.Parts.{found_at, header_of, steps_at, body_at, Loads}
use Rattle.player_model.proofs.Invariant.{standing, left, Playing}
use Rattle.player_model.proofs.Heads.{Headed, headed, script_unheaded}
use Rattle.player_model.proofs.Programs.{body_four, body_stop, body_full}
use Rattle.player_model.proofs.Openings.{script_opens}

-- ---- what is printed

unread_prints : output unread ≡ bad_line 1
unfolding play commit_lines
unread_prints = refl

-- ---- the script of a text

script_long : (text : List ℕ) → most < length text → script_of text ≡ unread
script_long text long = ap (λ (t : Bool). cond t unread (script (lines_of text))) (lt-ltb most (length text) long)

script_short : (text : List ℕ) → length text ≤ most → script_of text ≡ script (lines_of text)
script_short text short = ap (λ (t : Bool). cond t unread (script (lines_of text))) (le-ltb most (length text) short)

-- the first player, by the text
abbrev player_by : List ℕ → Bool → Script → Player
player_by text long s =
    cond long (idle (Bad 0))
    (cond (buffered.fits s.opening) (opened_player text s (length s.body.program / per_instruction)) (idle (Bad 1)))

player_long : (text : List ℕ) → most < length text → first_player text ≡ idle (Bad 0)
player_long text long = ap (λ (t : Bool). player_by text t (script_of text)) (lt-ltb most (length text) long)

player_short : (text : List ℕ) (s : Script) → length text ≤ most → script_of text ≡ s
    → first_player text ≡ player_by text false s
player_short text s short is =
    ap₂ (λ (t : Bool) (r : Script). player_by text t r) (le-ltb most (length text) short) is

unread_player : (text : List ℕ) → player_by text false unread ≡ idle (Bad 1)
unfolding sizes_fit
unread_player text = refl

-- a text with a bad first line
module _ (text : List ℕ) (short : length text ≤ most) (none : header_of text ≡ None) where
  script_headless : script_of text ≡ unread
  script_headless = script_short text short ∙ script_unheaded text none

  player_headless : first_player text ≡ idle (Bad 1)
  player_headless = player_short text unread short script_headless ∙ unread_player text

-- ---- where the steps begin

line_start_grows : (s : List ℕ) (k : ℕ) → k ≤ line_start s k
unfolding line_start
line_start_grows s zero = zero-le
line_start_grows s (suc k) = let h = line_start_grows s k in omega arith

-- behind k lines, whose instructions join the program
record Behind (s : List ℕ) (i : ℕ) (p : List ℕ) : Type 0 where
  lines : ℕ
  numbers : List ℕ
  four : length numbers ≡ lines * per_instruction
  within : line_start s i ≤ length s → line_start s (i + lines) ≤ length s
  body_is : body_at s (line_start s i) (suc i) p
      ≡ record { program = p ++ numbers; steps = steps_at s (line_start s (i + lines)) (suc (i + lines)) }

behind_none : (s : List ℕ) (i : ℕ) (p : List ℕ)
    → body_at s (line_start s i) (suc i) p ≡ record { program = p; steps = steps_at s (line_start s i) (suc i) }
    → Behind s i p
behind_none s i p e =
    record {
      lines = 0;
      numbers = [];
      four = refl;
      within = λ h. subst (λ (k : ℕ). line_start s k ≤ length s) (sym (add-zero i)) h;
      body_is = e
          ∙ ap₂ (λ (l : List ℕ) (k : ℕ). let b : Body = record { program = l; steps = steps_at s (line_start s k) (suc k) } in b)
          (sym (append-nil p)) (sym (add-zero i));
    }

behind_more : (s : List ℕ) (i : ℕ) (p ns : List ℕ) → length ns ≡ per_instruction → line_start s (suc i) ≤ length s
    → body_at s (line_start s i) (suc i) p ≡ body_at s (line_start s (suc i)) (suc (suc i)) (p ++ ns)
    → Behind s (suc i) (p ++ ns) → Behind s i p
behind_more s i p ns four inside e b =
    let k = b.lines in
    let moves : suc i + k ≡ i + suc k = omega arith in
    record {
      lines = suc k;
      numbers = ns ++ b.numbers;
      four = omega (arith, length-append ns b.numbers, four, b.four);
      within = λ _. subst (λ (j : ℕ). line_start s j ≤ length s) moves (b.within inside);
      body_is = e ∙ b.body_is
          ∙ ap₂ (λ (l : List ℕ) (j : ℕ). let b : Body = record { program = l; steps = steps_at s (line_start s j) (suc j) } in b)
          (append_assoc p ns b.numbers) moves;
    }

-- however four numbers join p, the steps begin behind some lines more
abbrev More : List ℕ → ℕ → List ℕ → Type 0
More s i p = (ns : List ℕ) → length ns ≡ per_instruction → Behind s (suc i) (p ++ ns)

body_behind : (fuel : ℕ) (s : List ℕ) (i : ℕ) (p : List ℕ) → program_most ≤ length p + fuel → Behind s i p
unfolding line_start
body_behind zero s i p h =
    behind_none s i p (body_full s p (line_start s i) (suc i) (omega (arith, h)))
body_behind (suc fuel) s i p h =
    by_room (ltb (length p) program_most) refl (λ ns four. body_behind fuel s (suc i) (p ++ ns)
    (omega (arith, h, length-append p ns, four)))
  where
    by_found : (f : Option Four) → found_at s (line_start s i) ≡ f → length p < program_most → More s i p → Behind s i p
    by_found None e room more = behind_none s i p (body_stop s p (line_start s i) (suc i) e)
    by_found (Some f) e room more =
        let ns = f.0 ∷ f.1 ∷ f.2 ∷ f.3 ∷ [] in
        let b = body_four s p (line_start s i) (suc i) f.0 f.1 f.2 f.3 f.4 e room in
        behind_more s i p ns refl (omega (arith, b.1, b.2))
        (b.0 ∙ ap (λ (k : ℕ). body_at s k (suc (suc i)) (p ++ ns)) b.1)
        (more ns refl)

    by_room : (t : Bool) → ltb (length p) program_most ≡ t → More s i p → Behind s i p
    by_room true e more = by_found (found_at s (line_start s i)) refl (ltb-true (length p) program_most e) more
    by_room false e more = behind_none s i p (body_full s p (line_start s i) (suc i) (ltb-false (length p) program_most e))

-- ---- lent rightly

empty_list : (l : List ℕ) → length l ≡ 0 → l ≡ []
empty_list [] e = refl
empty_list (x ∷ l) e = absurd (omega (arith, e))

pub lent_rightly : (text : List ℕ) (whole : Bool) (program memory : List ℕ) → wrongly_lent text whole program memory ≡ false
    → (program_most ≤ length program) × (length memory ≡ words_of text)
lent_rightly text whole program memory e =
    go (ltb (length program) program_most) (eqb (length memory) (words_of text)) refl refl e
  where
    go : (s t : Bool) → ltb (length program) program_most ≡ s → eqb (length memory) (words_of text) ≡ t
        → (s || not t || (not whole && leb (length text) most)) ≡ false
        → (program_most ≤ length program) × (length memory ≡ words_of text)
    go true t few is f = absurd (false≢true (sym f))
    go false false few is f = absurd (false≢true (sym f))
    go false true few is f = (ltb-false (length program) program_most few, eqb-true (length memory) (words_of text) is)

-- the opening of the script passes its checks
script_checked : (text : List ℕ) (s : Script) → script (lines_of text) ≡ s → Sized s
    → refusal (open_checks s.opening s.body.program (zeros s)) ≡ 0
script_checked text s is fit =
    subst (λ (r : Script). refusal (open_checks r.opening r.body.program (zeros r)) ≡ 0) is
    (script_opens (lines_of text) (subst Sized (sym is) fit))

-- ---- the ways
module _ {text : List ℕ} {whole : Bool} {program memory : List ℕ} where
  pub begins_over : {q : Player} → wrongly_lent text whole program memory ≡ true → q ≡ idle Over
      → Begins text whole program memory q program memory
  begins_over wrong over =
      record { refuses = λ _. (over, refl, refl); begins = λ right. absurd (false≢true (sym right ∙ wrong)) }

  begins_unread : {q : Player} (n : ℕ) → wrongly_lent text whole program memory ≡ false → script_of text ≡ unread
      → first_player text ≡ idle (Bad n) → q ≡ idle (Bad n) → Begins text whole program memory q program memory
  begins_unread {q} n right none first is =
      let starts : q ≡ first_player text = is ∙ sym first in
      let stays : program ≡ (script_of text).body.program ++ drop (length (script_of text).body.program) program =
      ap (λ (s : Script). s.body.program ++ drop (length s.body.program) program) (sym none) in
      let clear : memory ≡ replicate (words_of text) 0 =
      empty_list memory ((lent_rightly text whole program memory right).1 ∙ ap (λ (s : Script). words_asked s.opening) none)
      ∙ ap zeros (sym none) in
      record { refuses = λ wrong. absurd (false≢true (sym right ∙ wrong)); begins = λ _. (starts, stays, clear) }

  pub begins_long : {q : Player} → wrongly_lent text whole program memory ≡ false → most < length text → q ≡ idle (Bad 0)
      → Begins text whole program memory q program memory
  begins_long right long is = begins_unread 0 right (script_long text long) (player_long text long) is

  pub begins_headless : {q : Player} → wrongly_lent text whole program memory ≡ false → length text ≤ most
      → header_of text ≡ None → q ≡ idle (Bad 1) → Begins text whole program memory q program memory
  begins_headless right short none is =
      begins_unread 1 right (script_headless text short none) (player_headless text short none) is

  -- the player of a script whose machine was opened as u
  pub begins_open : {o : Opening} {from cursor line used : ℕ} {into after : List ℕ} {said : Answer} {u : Machine}
      → wrongly_lent text whole program memory ≡ false
      → length text ≤ most
      → Headed text o from
      → Loads text from program into cursor line used
      → used ≤ length into
      → after ≡ replicate (length memory) 0
      → Opens o (take used into) after said u
      → Begins text whole program memory (player Stepping cursor line 0 used u) into after
  begins_open {o} {from} {cursor} {line} {used} {into = into} {after} {said} {u} right short head loads room cleared opens =
      let numbers = take used into in
      let long : length numbers ≡ used = length-take-le used into room in
      let of : Body → Script = λ b. record { opening = o; body = b } in
      let s = of (record { program = numbers; steps = steps_at text cursor line }) in
      let plainly : script (lines_of text) ≡ s = head.script_is ∙ ap of loads.body_is in
      let is : script_of text ≡ s = script_short text short ∙ plainly in
      let k = length numbers / per_instruction in
      let clears : after ≡ zeros s =
      cleared ∙ ap (λ (n : ℕ). replicate n 0) ((lent_rightly text whole program memory right).1
      ∙ ap (λ (r : Script). words_asked r.opening) is) in
      let checked : refusal (open_checks o numbers after) ≡ 0 =
      ap (λ (m : List ℕ). refusal (open_checks o numbers m)) clears
      ∙ script_checked text s plainly head.fit in
      let made : u ≡ fresh_machine o k = (opens.opens checked).1 in
      let place : cursor ≡ line_start text (suc k) =
      loads.starts head.starts
      ∙ ap (line_start text) (let e : line - 1 ≡ suc k = omega (arith, loads.lines, long) in e) in
      let number : line ≡ suc (suc k) = omega (arith, loads.lines, long) in
      let first : player Stepping cursor line 0 used u ≡ first_player text =
      ap₂ (λ (c l : ℕ). player Stepping c l 0 used u) place number
      ∙ ap₂ (λ (n : ℕ) (m : Machine). player Stepping (line_start text (suc k)) (suc (suc k)) 0 n m) (sym long) made
      ∙ ap (λ (t : Bool). cond t (opened_player text s k) (idle (Bad 1))) (sym head.fit)
      ∙ sym (player_short text s short is) in
      let behind : into ≡ (script_of text).body.program ++ drop (length (script_of text).body.program) program =
      loads.rest ∙ ap (λ (n : ℕ). numbers ++ drop n program) (sym long)
      ∙ ap (λ (r : Script). r.body.program ++ drop (length r.body.program) program) (sym is) in
      let clear : after ≡ replicate (words_of text) 0 = clears ∙ ap zeros (sym is) in
      record { refuses = λ wrong. absurd (false≢true (sym right ∙ wrong)); begins = λ _. (first, behind, clear) }

-- ---- all is left to print

-- what is to be shown of a player with its program and memory
record Starts (text : List ℕ) (q : Player) (numbers memory : List ℕ) : Type 0 where
  used : q.used ≡ length numbers
  prints : left text numbers q memory ≡ printed text
  playing : Playing text numbers q memory

bad_starts : (text : List ℕ) (n : ℕ) (s : Script) → s ≡ unread → printed text ≡ bad_line n
    → Starts text (idle (Bad n)) s.body.program (zeros s)
bad_starts text n s none prints =
    record {
      used = ap (λ (r : Script). length r.body.program) (sym none);
      prints = sym prints;
      playing =
          record {
            fits = λ plays. absurd (false≢true plays);
            within = zero-le;
            used = tt;
            counted = zero-le;
            numbered = omega arith;
          };
    }

-- the player of a script with this opening
module _ (text : List ℕ) (short : length text ≤ most) (o : Opening) (from : ℕ) (head : Headed text o from) where
  abbrev behind : Behind text 1 []
  behind = body_behind program_most text 1 [] (omega arith)

  abbrev read : Script
  read =
      record {
        opening = o;
        body =
            record {
              program = behind.numbers;
              steps = steps_at text (line_start text (suc behind.lines)) (suc (suc behind.lines));
            };
      }

  script_is : script (lines_of text) ≡ read
  script_is =
      head.script_is
      ∙ ap (λ (b : Body). let s : Script = record { opening = o; body = b } in s)
      (ap (λ (k : ℕ). body_at text k 2 []) head.starts ∙ behind.body_is
      ∙ ap
      (λ (k : ℕ).
      let b : Body = record { program = behind.numbers; steps = steps_at text (line_start text k) (suc k) } in
      b)
      (let e : 1 + behind.lines ≡ suc behind.lines = omega arith in e))

  open_starts : (s : Script) → s ≡ script (lines_of text)
      → Starts text (opened_player text s (length s.body.program / per_instruction)) s.body.program (zeros s)
  open_starts s same =
      let ns = behind.numbers in
      let k = behind.lines in
      let lines : length ns / per_instruction ≡ k = omega (arith, behind.four) in
      let first : suc (length ns / per_instruction) ≡ 1 + k = omega (arith, lines) in
      let checked : refusal (open_checks o ns (zeros read)) ≡ 0 =
      script_checked text read script_is head.fit in
      subst
      (λ (r : Script).
      Starts text (opened_player text r (length r.body.program / per_instruction)) r.body.program (zeros r))
      (sym (same ∙ script_is))
      (record {
        used = refl;
        prints = ap
            (λ (j : ℕ).
            transcript ns (standing (fresh_machine o (length ns / per_instruction)) (zeros read) 0)
            (steps_at text (line_start text (suc j)) (suc (suc j))))
            lines
            ∙ ap (λ (X : Plain). transcript ns (start X (zeros read)) read.body.steps) (fresh_plain o ns)
            ∙ ap output (sym script_is)
            ∙ sym (printed_short text short);
        playing =
            record {
              fits = λ _. short;
              within = subst (λ (j : ℕ). line_start text j ≤ length text) (sym first)
                  (behind.within (subst (λ (j : ℕ). j ≤ length text) head.starts head.within));
              used = record {
                sound = fresh_sound o (length ns / per_instruction) head.fit;
                linked = subst (λ (X : Plain). Linked buffer_owes ns X (zeros read)) (sym (fresh_plain o ns))
                    (linked_open buffer_owes o ns (zeros read) checked);
              };
              counted = zero-le;
              numbered = let h = line_start_grows text (suc (length ns / per_instruction)) in omega (arith, h);
            };
      })

  -- and its first line is good
  script_fits : (s : Script) → s ≡ script (lines_of text) → Sized s
  script_fits s same = subst Sized (sym (same ∙ script_is)) head.fit

first_starts : (text : List ℕ) → Starts text (first_player text) (script_of text).body.program (replicate (words_of text) 0)
first_starts text = by_length (ltb most (length text)) refl
  where
    shown : (q : Player) → first_player text ≡ q
        → Starts text q (script_of text).body.program (replicate (words_of text) 0)
        → Starts text (first_player text) (script_of text).body.program (replicate (words_of text) 0)
    shown q is s =
        subst (λ (p : Player). Starts text p (script_of text).body.program (replicate (words_of text) 0)) (sym is) s

    by_header : length text ≤ most → (f : Option Four) → header_of text ≡ f
        → Starts text (first_player text) (script_of text).body.program (replicate (words_of text) 0)
    by_header short None e =
        shown (idle (Bad 1)) (player_headless text short e)
        (bad_starts text 1 (script_of text) (script_headless text short e)
        (printed_short text short ∙ ap output (script_unheaded text e) ∙ unread_prints))
    by_header short (Some f) e =
        let s = script_of text in
        let same = script_short text short in
        let o = banked f.0 f.1 f.2 f.3 in
        let fit = script_fits text short o f.4 (headed text e) s same in
        shown (opened_player text s (length s.body.program / per_instruction))
        (player_short text s short refl
        ∙ ap (λ (t : Bool). cond t (opened_player text s (length s.body.program / per_instruction)) (idle (Bad 1))) fit)
        (open_starts text short o f.4 (headed text e) s same)

    by_length : (t : Bool) → ltb most (length text) ≡ t
        → Starts text (first_player text) (script_of text).body.program (replicate (words_of text) 0)
    by_length true e =
        let long = ltb-true most (length text) e in
        shown (idle (Bad 0)) (player_long text long)
        (bad_starts text 0 (script_of text) (script_long text long) (printed_long text long))
    by_length false e = by_header (ltb-false most (length text) e) (header_of text) refl

-- the program stands in the places that the player uses
pub begins_left : {text : List ℕ} {whole : Bool} {program memory : List ℕ} {q : Player} {into after : List ℕ}
    → Begins text whole program memory q into after → wrongly_lent text whole program memory ≡ false
    → (left text (take q.used into) q after ≡ printed text) × Playing text (take q.used into) q after
begins_left {text} {whole} {program} {memory} {q} {into} {after} begun right =
    let is = begun.begins right in
    let numbers = (script_of text).body.program in
    let starts : Starts text q numbers after =
    subst (λ (w : List ℕ). Starts text q numbers w) (sym is.2)
    (subst (λ (p : Player). Starts text p numbers (replicate (words_of text) 0)) (sym is.0) (first_starts text)) in
    let own : numbers ≡ take q.used into =
    sym
    (ap₂ (λ (k : ℕ) (l : List ℕ). take k l) starts.used is.1
    ∙ take-append_seam numbers (drop (length numbers) program)) in
    subst (λ (l : List ℕ). (left text l q after ≡ printed text) × Playing text l q after) own
    (starts.prints, starts.playing)
