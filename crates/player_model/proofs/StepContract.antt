-- How a player's steps join. A step that reads no line (`goes_on`) and one that takes a line, which turns the phase (`turns_to`)
-- or asks for a call (`calls`), each lead on (`Stepped`), and so every step does (`step_goes`); what a line asks for is `orders`.
-- What is left to print is the piece printed and what is left after it, so pieces join by the associativity of ++
-- (`steps_go`). A player keeps what `Playing` says: each line read is a byte at least and adds at most its share (`line_share`)
-- to the commits counted or due. The weight falls: within a line by the rank, and past a line by `line_weight`, which is more than
-- any rank can rise (`fills_falls`).
-- Assumes nothing.
use mathlib.Core.Path.{◌≡◌, refl, sym, ap, ap₂, subst, ◌∙◌}
use mathlib.Core.Bool.{Bool, true, false, cond, true≢false}
use mathlib.Core.List.{List, [], ◌∷◌, ◌++◌, append_assoc, append-nil}
use mathlib.Core.Logic.{◌⊎◌, inl, inr}
use mathlib.Core.Option.{Option, none, some}
use Prim.Native.Nat.{ℕ, suc, ◌+◌, ◌-◌, ◌*◌, ◌≤◌, ◌<◌}
use native.Mathlib.Omega.{arith}
use lib.Dec.{eqb, ltb}
use lib.ListN.{length, take, replicate}
use lib.Seq.{slice, length-sets, drop-cons}
use borrow.Author.Tests.{lt-ltb}
use Rattle.text.specs.declared.Line.{Line}
use Rattle.text.specs.declared.Line.TheVariants.{End, Unended, Whole}
use Rattle.text.specs.Fields.{largest, fields}
use Rattle.text.specs.Lines.{Lines, line_at}
use Rattle.text.proofs.Splits.{line_is, line_end, line_unended, line_whole}
use Rattle.text.proofs.Trip.{Within, written_fields}
use Rattle.table.specs.Reference.{State}
use Rattle.machine_model.specs.declared.Machine.{Machine}
use Rattle.machine_model.specs.Calls.{Call, issue, execute, squash, commit, Answer, per_commit}
use Rattle.machine_model.specs.Contract.{plain}
use Rattle.sequential.specs.Play.{Played, commits_in, play}
use Rattle.sequential.proofs.Owing.{Linked}
use Rattle.theorem.proofs.Buffered.{buffer_owes}
use Rattle.sequential.proofs.Finishing.{either, respond_links}
use Rattle.script_model.specs.declared.Item.{Item}
use Rattle.script_model.specs.declared.Item.TheVariants.{Malformed, Sizes, Operation, Issue, Execute, Squash, Commit}
use Rattle.script_model.specs.declared.Item.TheVariants.{Finish}
use Rattle.player_model.specs.declared.Phase.{Phase}
use Rattle.player_model.specs.declared.Phase.TheVariants.{Over, Bad, Stepping, Finishing, Words}
use Rattle.player_model.specs.declared.Ask.{Ask}
use Rattle.player_model.specs.declared.Ask.TheVariants as ask
use Rattle.player_model.specs.declared.Order.{Order}
use Rattle.player_model.specs.declared.Player.{Player}
use Rattle.script_model.specs.Language.{letter_code, with_one, with_three, lettered, parsed_line}
use Rattle.script_model.specs.Language.{step_of, Steps, flawed, before, stepping}
use Rattle.script_model.specs.Language.{steps}
use Rattle.script_model.specs.Output.{commit_lines, bad_line, transcript}
use Rattle.player_model.specs.Playing.{count_most, one_more, ask_in, order_by, order_at, player, QuietStep, told_by}
use Rattle.player_model.specs.Playing.{counted_by, phase_after, after_call, CallStep, LineStep, StepIn, PlayerStep, longest}
use Rattle.player_model.specs.Playing.{PlayerSteps, still, onward, Writes, is_over, Fills}
use Rattle.player_model.specs.Computed.Parts.{steps_at}
use Rattle.player_model.proofs.Writing.{writes_none, writes_then}
use Rattle.script_model.proofs.Telling.{told_before}
use Rattle.player_model.proofs.Invariant.{standing, left_in, left, due, Usable, InUse, is_playing, line_share, Playing, rank}
use Rattle.player_model.proofs.Invariant.{line_weight, weight}
use Rattle.player_model.proofs.CallOnPlayer.{Single, call_does}
use Rattle.player_model.proofs.Phases.{Goes}
use Rattle.player_model.proofs.Limits.{limit_reached, finish_made}
use Rattle.player_model.proofs.Closings.{word_goes, end_goes}

-- ---- a step

-- what every step does
pub record Stepped (text program : List ℕ) (p : Player) (memory piece : List ℕ) (q : Player) (after : List ℕ) : Type 0 where
  pub lent : length after ≡ length memory
  pub used : q.used ≡ p.used
  pub falls : weight text q after < weight text p memory
  pub goes : Playing text program p memory
      → (left text program p memory ≡ piece ++ left text program q after) × Playing text program q after

few_commits : {text program : List ℕ} {p : Player} {memory : List ℕ} → Playing text program p memory
    → is_playing p.phase ≡ true → p.commits < count_most
few_commits playing plays = omega (arith, playing.fits plays, playing.within, playing.counted)

-- a step that reads no line
goes_on : {program : List ℕ} {h k : Phase} {m u : Machine} {memory piece after : List ℕ} {n j : ℕ}
    (text : List ℕ) (cursor line used : ℕ) → Goes program h m memory n piece k u after j
    → Stepped text program (player h cursor line n used m) memory piece (player k cursor line j used u) after
goes_on {k = k} text cursor line used g =
    record {
      lent = g.lent;
      used = refl;
      falls = omega (arith, g.falls, ap (λ (w : ℕ). rank w k) g.lent);
      goes = λ playing.
          let there = g.goes playing.used (few_commits playing) in (
            there.0 (steps_at text cursor line),
            record {
              fits = λ on. playing.fits (g.plays on);
              within = playing.within;
              used = there.1;
              counted = omega (arith, playing.counted, there.2);
              numbered = playing.numbered;
            },
          );
    }

-- the bad line, and then nothing
bad_goes : (program : List ℕ) (m : Machine) (memory : List ℕ) (n b : ℕ)
    → Goes program (Bad b) m memory n (bad_line b) Over m memory n
bad_goes program m memory n b =
    record {
      lent = refl;
      falls = omega arith;
      plays = λ on. on;
      goes = λ used few. (λ more. sym (append-nil (bad_line b)), tt, omega arith);
    }

-- a step without a call, by its equations
quietly : {text program : List ℕ} {p there q : Player} {memory bytes piece after : List ℕ}
    → QuietStep bytes there memory piece q after → Stepped text program p memory bytes there memory
    → Stepped text program p memory piece q after
quietly {text} {program} {p} {there} {q} {memory} {bytes} {piece} {after} s g =
    subst (λ (w : List ℕ). Stepped text program p memory piece q w) (sym s.keeps)
    (subst (λ (x : Player). Stepped text program p memory piece x memory) (sym s.leads)
    (subst (λ (l : List ℕ). Stepped text program p memory l there memory) (sym s.prints) g))

-- and one with a call
called : {text program : List ℕ} {c : Call} {p from q : Player} {memory piece after : List ℕ}
    (s : CallStep program c from memory piece q after)
    → Stepped text program p memory (told_by s.said s.list) (after_call c s.said s.machine from) after
    → Stepped text program p memory piece q after
called {text} {program} {c} {p} {from} {q} {memory} {piece} {after} s g =
    subst (λ (x : Player). Stepped text program p memory piece x after) (sym s.leads)
    (subst (λ (l : List ℕ). Stepped text program p memory l (after_call c s.said s.machine from) after) (sym s.prints) g)

-- ---- reading a line

abbrev unflawed : Steps
unflawed = record { calls = []; flaw = none }

-- no step is left: the closing lines are, or the bad line
told_end : (program : List ℕ) (m : Machine) (memory : List ℕ) (n : ℕ) (more : Steps)
    → transcript program (standing m memory n) unflawed ≡ left_in program (Words 0) more (standing m memory n)
unfolding play commit_lines
told_end program m memory n more = refl

told_flawed : (program : List ℕ) (m : Machine) (memory : List ℕ) (n b : ℕ)
    → transcript program (standing m memory n) (flawed b) ≡ bad_line b
unfolding play commit_lines
told_flawed program m memory n b = refl

-- the steps from a place on, by the line there
steps_end : (text : List ℕ) (cursor line : ℕ) → line_at text cursor ≡ End → steps_at text cursor line ≡ unflawed
unfolding steps
steps_end text cursor line e =
    ap (λ (ls : Lines). steps line ls.whole ls.rest) (line_end text cursor (line_is text cursor End e))

steps_unended : (text : List ℕ) (cursor line from : ℕ) → line_at text cursor ≡ Unended from
    → steps_at text cursor line ≡ flawed line
unfolding steps
steps_unended text cursor line from e =
    let found = line_is text cursor (Unended from) e in
    ap (λ (ls : Lines). steps line ls.whole ls.rest) (line_unended text cursor found.2)
    ∙ ap (steps line []) (drop-cons text cursor 0 found.1)

steps_whole : (text : List ℕ) (cursor line from to : ℕ) → line_at text cursor ≡ Whole from to
    → steps_at text cursor line ≡ stepping line (step_of (parsed_line (slice from to text))) (steps_at text (suc to) (suc line))
unfolding steps
steps_whole text cursor line from to e =
    let found = line_is text cursor (Whole from to) e in
    ap (λ (ls : Lines). steps line ls.whole ls.rest)
    (line_whole text cursor (omega (arith, found.1, found.2)))
    ∙ ap₂ (λ (a b : ℕ). stepping line (step_of (parsed_line (slice a b text))) (steps_at text (suc b) (suc line)))
    (sym found.0) (sym found.1)

-- the phase after what a line asks for
abbrev turned_to : Ask → Phase
turned_to (ask.Turn h) = h
turned_to ask.Issue = Stepping
turned_to (ask.Execute k) = Stepping
turned_to (ask.Squash k) = Stepping
turned_to ask.Commit = Stepping

-- at most so many commits more are counted or due after it
abbrev share : Ask → ℕ
share (ask.Turn h) = due h
share ask.Issue = 1
share (ask.Execute k) = 1
share (ask.Squash k) = 1
share ask.Commit = 1

-- what is left to print where this is asked for, with these steps after it
abbrev left_by : List ℕ → Ask → Steps → Played State → List ℕ
left_by program (ask.Turn h) more x = left_in program h more x
left_by program ask.Issue more x = transcript program x (before issue more)
left_by program (ask.Execute k) more x = transcript program x (before (execute k) more)
left_by program (ask.Squash k) more x = transcript program x (before (squash k) more)
left_by program ask.Commit more x = transcript program x (before commit more)

-- What was left to print is what is left where this is asked for; a line is a byte at least, and the weight falls.
record Orders (text : List ℕ) (cursor line : ℕ) (order : Order) : Type 0 where
  asks : line < count_most → (program : List ℕ) (m : Machine) (memory : List ℕ) (n : ℕ)
      → transcript program (standing m memory n) (steps_at text cursor line)
      ≡ left_by program order.ask (steps_at text order.cursor order.line) (standing m memory n)
  within : cursor ≤ length text → order.cursor ≤ length text
  shared : share order.ask + cursor * line_share ≤ order.cursor * line_share
  numbered : order.line + cursor ≤ line + order.cursor
  falls : (words : ℕ) → (length text - order.cursor) * line_weight + rank words (turned_to order.ask)
      < (length text - cursor) * line_weight + rank words Stepping

-- what an item asks for is what its step leaves
asks_step : (program : List ℕ) (m : Machine) (memory : List ℕ) (n : ℕ) (item : Item) (line : ℕ) (more : Steps)
    → transcript program (standing m memory n) (stepping line (step_of item) more)
    ≡ left_by program (ask_in item line) more (standing m memory n)
asks_step program m memory n Malformed line more = told_flawed program m memory n line
asks_step program m memory n (Sizes banks rows stages words) line more = told_flawed program m memory n line
asks_step program m memory n (Operation code d s imm) line more = told_flawed program m memory n line
asks_step program m memory n Issue line more = refl
asks_step program m memory n (Execute k) line more = refl
asks_step program m memory n (Squash k) line more = refl
asks_step program m memory n Commit line more = refl
asks_step program m memory n (Finish k) line more = refl

rank_due : (words : ℕ) (h : Phase) → rank words h ≤ 4 + words + due h
rank_due words Over = omega arith
rank_due words (Bad n) = omega arith
rank_due words Stepping = omega arith
rank_due words (Finishing k) = omega arith
rank_due words (Words a) = omega arith

rank_share : (words : ℕ) (a : Ask) → rank words (turned_to a) ≤ 4 + words + share a
rank_share words (ask.Turn h) = rank_due words h
rank_share words ask.Issue = omega arith
rank_share words (ask.Execute k) = omega arith
rank_share words (ask.Squash k) = omega arith
rank_share words ask.Commit = omega arith

-- what this item of line n asks for: no more commits than its share
abbrev Few : ℕ → Item → Type 0
Few n item = share (ask_in item n) ≤ line_share

few_one : (b k n : ℕ) → k ≤ largest → Few n (with_one b k)
few_one b k n h =
    either (Few n) (eqb b 101) (omega arith)
    (either (Few n) (eqb b 113) (omega arith) (either (Few n) (eqb b 120) (omega (arith, h)) (omega arith)))

few_three : (b d s imm n : ℕ) → Few n (with_three b d s imm)
few_three b d s imm n = either (Few n) (ltb 0 (letter_code b)) (omega arith) (omega arith)

few_lettered : (b n : ℕ) (o : Option (List ℕ)) → ((ns : List ℕ) → o ≡ some ns → Within largest ns) → Few n (lettered b o)
few_lettered b n none h = omega arith
few_lettered b n (some []) h = omega arith
few_lettered b n (some (k ∷ [])) h = few_one b k n (h (k ∷ []) refl 0)
few_lettered b n (some (k ∷ l ∷ [])) h = omega arith
few_lettered b n (some (d ∷ s ∷ imm ∷ [])) h = few_three b d s imm n
few_lettered b n (some (banks ∷ rows ∷ stages ∷ words ∷ [])) h = either (Few n) (eqb b 78) (omega arith) (omega arith)
few_lettered b n (some (k ∷ l ∷ m ∷ o ∷ p ∷ ns)) h = omega arith

few_parsed : (line : List ℕ) (n : ℕ) → Few n (parsed_line line)
few_parsed [] n = omega arith
few_parsed (b ∷ []) n = either (Few n) (eqb b 105) (omega arith) (either (Few n) (eqb b 99) (omega arith) (omega arith))
few_parsed (b ∷ c ∷ bs) n =
    either (Few n) (eqb c 44)
    (few_lettered b n (fields largest bs) (λ ns e. (written_fields largest bs ns e).1)) (omega arith)

more_most : (n : ℕ) → one_more n ≤ suc n
more_most n = either (λ (k : ℕ). k ≤ suc n) (ltb n count_most) (omega arith) (omega arith)

pub more_is : (n : ℕ) → n < count_most → one_more n ≡ suc n
more_is n few = ap (λ (b : Bool). cond b (suc n) n) (lt-ltb n count_most few)

orders : (text : List ℕ) (cursor line : ℕ) → Orders text cursor line (order_at text cursor line)
orders text cursor line = go (line_at text cursor) refl
  where
    -- where no line is taken
    stays : (h : Phase) → ((words : ℕ) → rank words h < rank words Stepping) → due h ≡ 0
        → ((program : List ℕ) (m : Machine) (memory : List ℕ) (n : ℕ)
        → transcript program (standing m memory n) (steps_at text cursor line)
        ≡ left_in program h (steps_at text cursor line) (standing m memory n))
        → Orders text cursor line (record { ask = ask.Turn h; cursor = cursor; line = line })
    stays h less no_due asks =
        record {
          asks = λ few. asks;
          within = λ w. w;
          shared = omega (arith, no_due);
          numbered = omega arith;
          falls = λ words. omega (arith, less words);
        }

    go : (l : Line) → line_at text cursor ≡ l → Orders text cursor line (order_by text cursor line l)
    go End found =
        stays (Words 0) (λ words. omega arith) refl
        (λ program m memory n.
        ap (transcript program (standing m memory n)) (steps_end text cursor line found)
        ∙ told_end program m memory n (steps_at text cursor line))
    go (Unended from) found =
        stays (Bad line) (λ words. omega arith) refl
        (λ program m memory n.
        ap (transcript program (standing m memory n)) (steps_unended text cursor line from found)
        ∙ told_flawed program m memory n line)
    go (Whole from to) found =
        let place = line_is text cursor (Whole from to) found in
        let behind : cursor ≤ to = omega (arith, place.1) in
        let inside : to < length text = place.2 in
        let item = parsed_line (slice from to text) in
        let small = few_parsed (slice from to text) line in
        record {
          asks = λ few program m memory n.
              ap (transcript program (standing m memory n))
              (steps_whole text cursor line from to found
              ∙ ap₂ (λ (a b : ℕ). stepping line (step_of item) (steps_at text a b))
              (let q : suc to ≡ to + 1 = omega arith in q)
              (sym (more_is line few)))
              ∙ asks_step program m memory n item line (steps_at text (to + 1) (one_more line));
          within = λ h. omega arith;
          shared = omega arith;
          numbered = omega (arith, more_most line);
          falls = λ words. omega (arith, rank_share words (ask_in item line));
        }

-- ---- taking a line's order

use_in : {program : List ℕ} {m : Machine} {memory : List ℕ} (h : Phase) → Usable program m memory → InUse h program m memory
use_in Over used = tt
use_in (Bad n) used = tt
use_in Stepping used = used
use_in (Finishing k) used = used
use_in (Words a) used = used

module _ (text program : List ℕ) (cursor line n used : ℕ) (m : Machine) (memory : List ℕ) where
  -- the player at the line, and what the line asks for
  abbrev here : Player
  here = player Stepping cursor line n used m

  abbrev order : Order
  order = order_at text cursor line

  numbers_few : Playing text program here memory → line < count_most
  numbers_few playing = omega (arith, playing.fits refl, playing.within, playing.numbered)

  -- where the line makes the player turn to another phase
  turns_to : (h : Phase) → order.ask ≡ ask.Turn h
      → Stepped text program here memory [] (player h order.cursor order.line n used m) memory
  turns_to h is =
      let o = orders text cursor line in
      record {
        lent = refl;
        used = refl;
        falls = omega (arith, o.falls (length memory), ap (λ (a : Ask). rank (length memory) (turned_to a)) is);
        goes = λ playing. (
          o.asks (numbers_few playing) program m memory n
              ∙ ap (λ (a : Ask). left_by program a (steps_at text order.cursor order.line) (standing m memory n)) is,
          record {
            fits = λ _. playing.fits refl;
            within = o.within playing.within;
            used = use_in h playing.used;
            counted = omega (arith, playing.counted, o.shared, ap share is);
            numbered = omega (arith, playing.numbered, o.numbered);
          },
        );
      }

  counted_most : (said : Answer) → counted_by said n ≤ suc n
  counted_most said = either (λ (k : ℕ). k ≤ suc n) (eqb (commits_in said) 0) (omega arith) (more_most n)

  -- where it asks for call c, which was made
  calls : (c : Call) (a : Ask) → Single c
      → ((more : Steps) (x : Played State) → left_by program a more x ≡ transcript program x (before c more))
      → turned_to a ≡ Stepping → share a ≡ 1 → ((said : Answer) → phase_after c said ≡ Stepping) → order.ask ≡ a
      → {piece : List ℕ} {q : Player} {after : List ℕ}
      → CallStep program c (player Stepping order.cursor order.line n used m) memory piece q after
      → Stepped text program here memory piece q after
  calls c a single asks stays one phase is {piece} {q} {after} s =
      let o = orders text cursor line in
      let said = s.said in
      let u = s.machine in
      called s
      (subst
      (λ (h : Phase).
      Stepped text program here memory (told_by said s.list)
      (player h order.cursor order.line (counted_by said n) used u) after)
      (sym (phase said))
      (record {
        lent = s.lent;
        used = refl;
        falls =
            omega (
              arith,
              o.falls (length memory),
              ap (λ (b : Ask). rank (length memory) (turned_to b)) is,
              ap (rank (length memory)) stays,
              ap (λ (w : ℕ). rank w Stepping) s.lent,
            );
        goes = λ playing.
            let more = steps_at text order.cursor order.line in
            let d = call_does n single s.meets playing.used.sound (few_commits playing refl) in (
              o.asks (numbers_few playing) program m memory n
                  ∙ ap (λ (b : Ask). left_by program b more (standing m memory n)) is
                  ∙ asks more (standing m memory n)
                  ∙ told_before program (standing m memory n) c more d.numbers (plain u) after (counted_by said n) d.does
                  d.whole
                  ∙ ap (λ (l : List ℕ). l ++ transcript program (standing u after (counted_by said n)) more) d.lines,
              record {
                fits = λ _. playing.fits refl;
                within = o.within playing.within;
                used =
                    record {
                      sound = s.meets.lawful playing.used.sound;
                      linked = subst (λ (z : Played State). Linked buffer_owes program z.state z.memory) d.does
                          (respond_links buffer_owes program c (plain m) memory playing.used.linked).linked;
                    };
                counted = omega (arith, playing.counted, o.shared, ap share is, one, counted_most said);
                numbered = omega (arith, playing.numbered, o.numbered);
              },
            );
      }))

  line_goes : {piece : List ℕ} {q : Player} {after : List ℕ} (a : Ask) → order.ask ≡ a
      → LineStep program a (player Stepping order.cursor order.line n used m) memory piece q after
      → Stepped text program here memory piece q after
  line_goes (ask.Turn h) is s = quietly s (turns_to h is)
  line_goes ask.Issue is s = calls issue ask.Issue tt (λ more x. refl) refl refl (λ said. refl) is s
  line_goes (ask.Execute k) is s = calls (execute k) (ask.Execute k) tt (λ more x. refl) refl refl (λ said. refl) is s
  line_goes (ask.Squash k) is s = calls (squash k) (ask.Squash k) tt (λ more x. refl) refl refl (λ said. refl) is s
  line_goes ask.Commit is s = calls commit ask.Commit tt (λ more x. refl) refl refl (λ said. refl) is s

-- ---- every step
step_in : (text program : List ℕ) (h : Phase) (cursor line n used : ℕ) (m : Machine) {memory piece : List ℕ} {q : Player}
    {after : List ℕ} → StepIn text program h (player h cursor line n used m) memory piece q after
    → Stepped text program (player h cursor line n used m) memory piece q after
step_in text program Over cursor line n used m s = absurd s
step_in text program (Bad b) cursor line n used m {memory} s =
    quietly s (goes_on text cursor line used (bad_goes program m memory n b))
step_in text program Stepping cursor line n used m {memory} s =
    line_goes text program cursor line n used m memory (order_at text cursor line).ask refl s
step_in text program (Finishing k) cursor line n used m {memory} (inl s) =
    quietly s.1 (goes_on text cursor line used (limit_reached program m n k memory s.0))
step_in text program (Finishing k) cursor line n used m {memory} {after = after} (inr s) =
    let c = s.1 in
    called c
    (goes_on text cursor line used
    (finish_made program m c.machine n k memory after (replicate per_commit 0) c.list c.said s.0 refl
    c.meets c.lent))
step_in text program (Words a) cursor line n used m {memory} (inl s) =
    quietly s.1 (goes_on text cursor line used (word_goes program m n a memory s.0))
step_in text program (Words a) cursor line n used m {memory} (inr s) =
    quietly s.1 (goes_on text cursor line used (end_goes program m n a memory s.0))

pub step_goes : {text program : List ℕ} {p q : Player} {memory piece after : List ℕ}
    → PlayerStep text program p memory piece q after → Stepped text program p memory piece q after
step_goes {text} {program} {p} s =
    step_in text program p.phase p.cursor p.line p.commits p.used p.machine s.made

-- ---- steps in a row

pub steps_used : {text program : List ℕ} {size : ℕ} {p : Player} {memory : List ℕ} {q : Player} {bytes after : List ℕ}
    → PlayerSteps text program size p memory bytes q after → q.used ≡ p.used
steps_used still = refl
steps_used (onward piece s room step) = (step_goes step).used ∙ steps_used s

pub steps_lent : {text program : List ℕ} {size : ℕ} {p : Player} {memory : List ℕ} {q : Player} {bytes after : List ℕ}
    → PlayerSteps text program size p memory bytes q after → length after ≡ length memory
steps_lent still = refl
steps_lent (onward piece s room step) = (step_goes step).lent ∙ steps_lent s

steps_fall : {text program : List ℕ} {size : ℕ} {p : Player} {memory : List ℕ} {q : Player} {bytes after : List ℕ}
    → PlayerSteps text program size p memory bytes q after → weight text q after ≤ weight text p memory
steps_fall still = omega arith
steps_fall (onward piece s room step) = omega (arith, steps_fall s, (step_goes step).falls)

pub steps_go : {text program : List ℕ} {size : ℕ} {p : Player} {memory : List ℕ} {q : Player} {bytes after : List ℕ}
    → PlayerSteps text program size p memory bytes q after → Playing text program p memory
    → (left text program p memory ≡ bytes ++ left text program q after) × Playing text program q after
steps_go still playing = (refl, playing)
steps_go {text} {program} (onward {bytes = bytes} {r = r} {w = w} piece s room step) playing =
    let one = steps_go s playing in
    let two = (step_goes step).goes one.1 in (
      one.0 ∙ ap (λ (l : List ℕ). bytes ++ l) two.0 ∙ sym (append_assoc bytes piece (left text program r w)),
      two.1,
    )

-- ---- a whole buffer

-- the steps so far into a buffer
pub record Filling (text program : List ℕ) (p : Player) (memory out : List ℕ) (q : Player) (after into : List ℕ) (at : ℕ)
    : Type 0 where
  pub bytes : List ℕ
  pub steps : PlayerSteps text program (length out) p memory bytes q after
  pub writes : Writes out 0 bytes into at
  pub within : at ≤ length out

pub filling_none : (text program : List ℕ) (p : Player) (memory out : List ℕ)
    → Filling text program p memory out p memory out 0
filling_none text program p memory out =
    record { bytes = []; steps = still; writes = writes_none out 0; within = omega arith }

-- the buffer keeps its length
pub filling_size : {text program : List ℕ} {p q : Player} {memory out after into : List ℕ} {at : ℕ}
    → Filling text program p memory out q after into at → length into ≡ length out
filling_size {out = out} f = ap length f.writes.written ∙ length-sets out 0 f.bytes

-- these bytes were written, no more than a step may write
abbrev pub Puts : List ℕ → ℕ → List ℕ → List ℕ → ℕ → Type 0
Puts out at bytes into end = Writes out at bytes into end × (end ≤ at + longest)

-- one step more, whose piece was written; the weight falls with it
pub filling_then : {text program : List ℕ} {p q r : Player} {memory out after later into last piece : List ℕ} {at end : ℕ}
    → Filling text program p memory out q after into at → at + longest ≤ length into
    → PlayerStep text program q after piece r later → Puts into at piece last end
    → (weight text r later < weight text q after) × Filling text program p memory out r later last end
filling_then {piece = piece} f room s put =
    let same = filling_size f in (
      (step_goes s).falls,
      record {
        bytes = f.bytes ++ piece;
        steps = onward piece f.steps (omega (arith, f.writes.ended, room, same)) s;
        writes = writes_then f.writes put.0;
        within = omega (arith, same, put.1, room);
      },
    )

-- it ends where all is printed or no line more has room
pub filling_ends : {text program : List ℕ} {p q : Player} {memory out after into : List ℕ} {at : ℕ}
    → Filling text program p memory out q after into at → (is_over q.phase ≡ true) ⊎ (length into < at + longest)
    → (list : List ℕ) → take p.used list ≡ program
    → Fills text list p memory out q after into at
filling_ends {text} {p = p} {q} {memory} {out} {after} {at = at} f stops list own =
    record {
      bytes = f.bytes;
      steps = subst (λ (l : List ℕ). PlayerSteps text l (length out) p memory f.bytes q after) (sym own) f.steps;
      writes = f.writes;
      within = f.within;
      stops = subst (λ (n : ℕ). (is_over q.phase ≡ true) ⊎ (n < at + longest)) (filling_size f) stops;
    }

steps_moved : {text program : List ℕ} {size end : ℕ} {p q : Player} {memory bytes after : List ℕ}
    → PlayerSteps text program size p memory bytes q after → end ≡ 0 + length bytes
    → (is_over q.phase ≡ true) ⊎ (size < end + longest)
    → is_over p.phase ≡ false → longest ≤ size
    → weight text q after < weight text p memory
steps_moved still ended (inl over) going room = absurd (true≢false (sym over ∙ going))
steps_moved still ended (inr full) going room = absurd (omega (arith, ended, full, room))
steps_moved (onward piece s _ step) ended stops going room = omega (arith, steps_fall s, (step_goes step).falls)

-- a call with room for a step on a player that is not over lowers the weight
pub fills_falls : {text program : List ℕ} {p q : Player} {memory out after into : List ℕ} {end : ℕ}
    → Fills text program p memory out q after into end → is_over p.phase ≡ false → longest ≤ length out
    → weight text q after < weight text p memory
fills_falls f going room = steps_moved f.steps f.writes.ended f.stops going room
