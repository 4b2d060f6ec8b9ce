-- What an execution comes to, found over the arrays lent, and the table that it leaves.
-- Assumes nothing.
use Rattle.std.specs.Prelude.{Bool, true, false, cond, ◌||◌, List, ℕ, get_or, set}
use Rattle.table.specs.declared.Table.{Table}
use Rattle.table.specs.Bank.{bank}
use Rattle.engine.specs.Computed.Steps.{cut, executing, marking, keeping}
use Rattle.lookup.specs.Computed.Search.{forward, place_for, left_after}
use Rattle.engine.specs.declared.Action.{Action}
use Rattle.engine.specs.declared.Action.TheVariants.{Compute, LoadAt, StoreAt, PartAt}
use Rattle.engine.specs.Part.{word_of, whole}
use Rattle.engine.specs.declared.Effect.{Effect}

-- the address in an action, of a part's store the byte number; any, 0, where there is none
abbrev pub address_in : Action → ℕ
address_in (Compute v) = 0
address_in (LoadAt a) = a
address_in (StoreAt a v) = a
address_in (PartAt part b v) = b

-- it is a store of a part
abbrev pub is_part : Action → Bool
is_part (Compute v) = false
is_part (LoadAt a) = false
is_part (StoreAt a v) = false
is_part (PartAt part b v) = true

-- the number of the word that it goes to
abbrev pub word_address : Action → ℕ
word_address act = cond (is_part act) (word_of (address_in act)) (address_in act)

-- what stands there below the table: the memory's word
abbrev pub word_below : List ℕ → Action → ℕ
word_below memory act = get_or memory (word_address act) 0

-- what an action comes to at position p of a table with these parts, where `below` stands below the table at its word
abbrev pub effect_of : ℕ → ℕ → ℕ → ℕ → ℕ → List ℕ → List ℕ → List ℕ → List ℕ → List ℕ → ℕ → ℕ → Action → Effect
effect_of banks rows stages oldest live addresses loads stores values taken p below (Compute v) =
    record { load = false; store = false; row = 0; word = 0; left = live; value = v; address = 0; distance = 0; taken = 0 }
effect_of banks rows stages oldest live addresses loads stores values taken p below (LoadAt a) =
    let q = place_for oldest stages live rows addresses loads stores (bank banks a) a p in
    let found = forward oldest stages stores values q.row p below in
    record {
      load = true;
      store = false;
      row = q.row;
      word = a;
      left = q.left;
      value = found.word;
      address = a;
      distance = found.distance;
      taken = found.word;
    }
effect_of banks rows stages oldest live addresses loads stores values taken p below (StoreAt a v) =
    let q = place_for oldest stages live rows addresses loads stores (bank banks a) a p in
    record {
      load = false;
      store = true;
      row = q.row;
      word = a;
      left = left_after oldest stages live loads stores taken q.row q.left p v;
      value = v;
      address = a;
      distance = 0;
      taken = 0;
    }
effect_of banks rows stages oldest live addresses loads stores values taken p below (PartAt part b v) =
    let a = word_of b in
    let q = place_for oldest stages live rows addresses loads stores (bank banks a) a p in
    let w = (forward oldest stages stores values q.row p below).word in
    record {
      load = true;
      store = true;
      row = q.row;
      word = a;
      left = left_after oldest stages live loads stores taken q.row q.left p (whole part b w v);
      value = whole part b w v;
      address = b;
      distance = 0;
      taken = w;
    }

-- the value that it answers: a load's, else 0
abbrev pub answered : Bool → Bool → ℕ → ℕ
answered load store v = cond load (cond store 0 v) 0

-- the same of a table
abbrev pub effect_in : Table → ℕ → ℕ → Action → Effect
effect_in t p below act =
    effect_of t.banks t.rows t.stages t.oldest t.live t.addresses t.loads t.stores t.values t.taken p below act

-- the same over this memory
abbrev pub effect_at : Table → ℕ → List ℕ → Action → Effect
effect_at t p memory act = effect_in t p (word_below memory act) act

-- the table after an execution at stage s with this effect
abbrev pub apply_effect : Table → Effect → ℕ → Table
apply_effect t q s =
    let u = cut t q.left in
    executing u s (cond (q.load || q.store) (set t.addresses q.row q.word) t.addresses)
    (marking u.loads q.load q.row s)
    (marking u.stores q.store q.row s)
    (keeping t.values q.store s q.value)
    (keeping t.taken q.load s q.taken)
