-- What the letter of a key says of it, and what is read where memory lacks.
use Rattle.std.proofs.Common.{◌≡◌, ◌==◌, Bool, true, false, ℕ, List, [], ◌∷◌, Option, Some, None, refl, ap, sym, ◌∙◌, subst}
use Rattle.std.specs.Prelude.{is_some, option_map, position, unwrap_or, Result, Ok, Err, if◌then◌else◌}
use Rattle.std.specs.Str.{bytes_eq}
use Rattle.bench_item.specs.declared.key.Key.{Key}
use Rattle.bench_item.specs.declared.key.Role.{Role}
use Rattle.script_text.specs.Keys.{key_of, key_with, name_of, role_of}
use Rattle.debug_text.specs.Breaks.{read_as, state_at, state_with, value_with}
use Rattle.debug_text.specs.Faults.{fault_in}
use Rattle.debug_text.specs.Tables.{Tables, table_of}
use Rattle.debug_text.specs.Words.{key_or, role_in}
use Rattle.debug_text.specs.declared.command.Breakpoint.{Breakpoint}
use Rattle.debug_text.specs.declared.command.CommandFault.{CommandFault}
use Rattle.debug_text.specs.declared.command.CommandFault.TheVariants.{NoMemory, UnknownCommand}

with_role : (role : Option Role) (name : Option (List ℕ)) (key : Key) → key_with role name ≡ Some key → role ≡ Some key.role
with_role None name key e = absurd cc
with_role (Some role) None key e = absurd cc
with_role (Some role) (Some name) key e = ap (λ (o : Option Key). option_map (λ (k : Key). k.role) o) e

by_colon : (b : Bool) (role : Option Role) (name : Option (List ℕ)) (key : Key)
    → (if b then key_with role name else None) ≡ Some key → (if b then role else None) ≡ Some key.role
by_colon true role name key e = with_role role name key e
by_colon false role name key e = absurd cc

-- a key has the role that its letter names
pub key_role : (word : List ℕ) (key : Key) → key_of word ≡ Some key → role_in word ≡ Some key.role
key_role [] key e = absurd cc
key_role (mark ∷ []) key e = absurd cc
key_role (mark ∷ colon ∷ name) key e = by_colon (colon == 58) (role_of mark) (name_of name) key e

-- what is read of a key and a state, each of which may be missing
abbrev pub state_found : Option Key → Option ℕ → Result Breakpoint CommandFault
state_found None place = Err UnknownCommand
state_found (Some key) place = state_at key place

found_by : (tables : Tables) (word state : List ℕ) (role : Role) (place : Option ℕ) (key : Option Key)
    → key_of word ≡ key → role_in word ≡ Some role → position (λ name. bytes_eq name state) (table_of tables role).states ≡ place
    → state_with tables key state ≡ state_found key place
found_by tables word state role place None k r p = refl
found_by tables word state role place (Some key) k r p =
    let same : role ≡ key.role = ap (λ (o : Option Role). unwrap_or o role) (sym r ∙ key_role word key k) in
    ap (state_at key) (subst (λ (x : Role). position (λ name. bytes_eq name state) (table_of tables x).states ≡ place) same p)

-- a state is one of the table of the role that the key's letter names
pub read_state : (tables : Tables) (word state : List ℕ) (role : Role) (place : Option ℕ)
    → role_in word ≡ Some role → position (λ name. bytes_eq name state) (table_of tables role).states ≡ place
    → state_with tables (key_of word) state ≡ state_found (key_of word) place
read_state tables word state role place r p = found_by tables word state role place (key_of word) refl r p

pub no_state : (key : Option Key) → fault_in (state_found key None) ≡ UnknownCommand
no_state None = refl
no_state (Some key) = refl

pub state_wanted : (key : Option Key) (state : ℕ) → is_some key ≡ true → fault_in (state_found key (Some state)) ≡ NoMemory
state_wanted None state e = absurd cc
state_wanted (Some key) state e = refl

no_role : (word : List ℕ) (key : Option Key) → key_of word ≡ key → role_in word ≡ None → key ≡ None
no_role word None k r = refl
no_role word (Some key) k r = let wrong : None ≡ Some key.role = sym r ∙ key_role word key k in absurd cc

-- a word whose letter names no role is no key
pub no_key : (word : List ℕ) → role_in word ≡ None → key_of word ≡ None
no_key word r = no_role word (key_of word) refl r

pub fault_read_as : {A B : Type 0} (f : A → B) (r : Result A CommandFault) → fault_in (read_as f r) ≡ fault_in r
fault_read_as f (Ok a) = refl
fault_read_as f (Err e) = refl

pub key_wanted : (fault : CommandFault) (key : Option Key) → is_some key ≡ true → fault_in (key_or fault key) ≡ NoMemory
key_wanted fault None e = absurd cc
key_wanted fault (Some key) e = refl

pub value_wanted : (key : Option Key) (at : Result (ℕ × ℕ) CommandFault) → is_some key ≡ true → fault_in (value_with key at) ≡ fault_in at
value_wanted None at e = absurd cc
value_wanted (Some key) (Ok a) e = refl
value_wanted (Some key) (Err fault) e = refl

pub ruleset reads = (fault_read_as, key_wanted, value_wanted)
