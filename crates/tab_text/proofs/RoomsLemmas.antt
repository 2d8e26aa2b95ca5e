use Rattle.std.proofs.Common.{◌≡◌, ℕ, ◌≤◌, Bool, true, false, ◌&&◌, leb, List, [], ◌∷◌, length, map, arith, refl}
use Rattle.std.specs.Bool.{OnTrue}
use Rattle.std.proofs.lemmas.Bool.Decides.{nat_tests}
use Rattle.tab_text.specs.Rows.{Names, place_of, numbered}
use Rattle.tab_text.specs.declared.row.Row.{Row}
use Rattle.tab_text.specs.Faults.{has_room}
use Rattle.tab_text.specs.Cells.{NamedRow}
use Rattle.tab_text.specs.Rooms.{with_row, with_name, with_names}
use Rattle.tab_text.specs.declared.limits.TheConstants.{MAX_STATES, MAX_KINDS, MAX_GUARDS, MAX_ACTIONS}

-- names that a table has room for
pub record FitsTable (names : Names) : Type 0 where
  pub states : length names.states ≤ MAX_STATES
  pub kinds : length names.kinds ≤ MAX_KINDS
  pub guards : length names.guards ≤ MAX_GUARDS
  pub actions : length names.actions ≤ MAX_ACTIONS

all-four : (a b c d : Bool) → (a && b && c && d) ≡ true → (a ≡ true) × (b ≡ true) × (c ≡ true) × (d ≡ true)
all-four true true true true is = (refl, refl, refl, refl)
all-four true true true false is = cc
all-four true true false d is = cc
all-four true false c d is = cc
all-four false b c d is = cc

le-from : (m n : ℕ) → leb m n ≡ true → m ≤ n
le-from m n is = grind (arith, nat_tests)

pub fits-from : (names : Names) → has_room names ≡ true → FitsTable names
unfolding has_room
fits-from names is =
    let all = all-four (leb (length names.states) MAX_STATES) (leb (length names.kinds) MAX_KINDS) (leb (length names.guards) MAX_GUARDS) (leb (length names.actions) MAX_ACTIONS) is in
    record {
      states = le-from (length names.states) MAX_STATES all.0;
      kinds = le-from (length names.kinds) MAX_KINDS all.1;
      guards = le-from (length names.guards) MAX_GUARDS all.2;
      actions = le-from (length names.actions) MAX_ACTIONS all.3;
    }

no-second : (a c d : Bool) → (a && false && c && d) ≡ false
no-second true c d = refl
no-second false c d = refl

no-third : (a b d : Bool) → (a && b && false && d) ≡ false
no-third true true d = refl
no-third true false d = refl
no-third false b d = refl

-- one list without room is enough
pub no-room-states : (names : Names) → leb (length names.states) MAX_STATES ≡ false → has_room names ≡ false
unfolding has_room
no-room-states names full = rw full refl

pub no-room-kinds : (names : Names) → leb (length names.kinds) MAX_KINDS ≡ false → has_room names ≡ false
unfolding has_room
no-room-kinds names full = rw full (no-second (leb (length names.states) MAX_STATES) (leb (length names.guards) MAX_GUARDS) (leb (length names.actions) MAX_ACTIONS))

pub no-room-guards : (names : Names) → leb (length names.guards) MAX_GUARDS ≡ false → has_room names ≡ false
unfolding has_room
no-room-guards names full = rw full (no-third (leb (length names.states) MAX_STATES) (leb (length names.kinds) MAX_KINDS) (leb (length names.actions) MAX_ACTIONS))

-- where the others have room, the actions decide
pub room-actions : (names : Names) → leb (length names.states) MAX_STATES ≡ true → leb (length names.kinds) MAX_KINDS ≡ true → leb (length names.guards) MAX_GUARDS ≡ true → has_room names ≡ leb (length names.actions) MAX_ACTIONS
unfolding has_room
room-actions names states kinds guards = rw (states, kinds, guards) refl

-- the names of one more row, list by list
pub with_row-from : (old : Names) (row : NamedRow) (states kinds guards actions : List (List ℕ)) (test : Bool) → states ≡ with_names old.states (row.state ∷ row.next ∷ []) → kinds ≡ with_name old.kinds row.kind → guards ≡ with_names old.guards row.guards → OnTrue test (actions ≡ with_names old.actions row.actions) → OnTrue test (◌≡◌ {A = Names} (record { states = states; kinds = kinds; guards = guards; actions = actions }) (with_row old row))
unfolding with_row
with_row-from old row states kinds guards actions true s k g a = rw (s, k, g, a) refl
with_row-from old row states kinds guards actions false s k g a = tt

-- a row's numbers, one by one
pub numbered-from : (names : Names) (row : NamedRow) (state kind next : ℕ) (guards actions : List ℕ) → state ≡ place_of names.states row.state → kind ≡ place_of names.kinds row.kind → guards ≡ map (place_of names.guards) row.guards → actions ≡ map (place_of names.actions) row.actions → next ≡ place_of names.states row.next → ◌≡◌ {A = Row} (record { state = state; kind = kind; guards = guards; actions = actions; next = next }) (numbered names row)
unfolding numbered
numbered-from names row state kind next guards actions s k g a n = rw (s, k, g, a, n) refl
