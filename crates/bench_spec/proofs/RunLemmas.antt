-- In a legal log the moves of each machine are a run of its table.
use Rattle.std.proofs.Common.{◌≡◌, ℕ, List, [], ◌∷◌, ◌++◌, Bool, true, false, Option, Some, None, refl, sym, ◌∙◌, ap}
use Rattle.std.proofs.Common.{subst, arith, append_assoc}
use Rattle.std.specs.Prelude.{◌==◌, ◌&&◌, flat_map, map, if◌then◌else◌}
use Rattle.std.specs.List.{position_or_len}
use Rattle.std.specs.Str.{bytes_eq}
use Rattle.std.proofs.lemmas.Bool.{false≢true}
use Rattle.std.proofs.lemmas.Bool.Decides.{nat_tests}
use Rattle.std.proofs.lemmas.Grind.{flat_map-append}
use Rattle.std.proofs.lemmas.Slice.Eq.{bytes_eq-Decides}
use Rattle.acct_book.specs.Laws.{EachAfter}
use Rattle.tab_law.specs.Books.{Laws}
use Rattle.tab_step.specs.declared.machine.MachineState.{MachineState}
use Rattle.tab_text.specs.Contents.{Contents}
use Rattle.bench_item.specs.declared.entry.Entry.{Entry}
use Rattle.bench_item.specs.declared.entry.Handled.{Handled}
use Rattle.bench_item.specs.declared.entry.Moved.{Moved}
use Rattle.bench_item.specs.declared.entry.Handled.TheVariants.{TooBusy, Stale, Move}
use Rattle.bench_item.specs.Keys.{Node, home, is_same_key, is_same_role, key_of, number_at, peers_in}
use Rattle.bench_item.specs.declared.item.Item.{Item}
use Rattle.bench_item.specs.declared.item.Item.TheVariants.{ToMachine, ToLine, Dial, Undial, Arm, Disarm}
use Rattle.bench_item.specs.declared.item.MachineItem.{MachineItem}
use Rattle.bench_item.specs.declared.key.Key.{Key}
use Rattle.bench_item.specs.declared.key.Role.{Role}
use Rattle.bench_item.specs.declared.key.Role.TheVariants.{Peer, Client, Server}
use Rattle.bench_item.specs.declared.step.Step.{Step}
use Rattle.bench_spec.specs.Legal.{AreRuns, HasParts, IsLegal, IsRun, MayFollow, MovesNext}
use Rattle.bench_spec.specs.Machines.{keys_in, moves_in, moves_of, number_for, start, state_after}
use Rattle.bench_item.specs.Past.{distinct}
use Rattle.bench_spec.specs.Settings.{Settings, table_of}
use Rattle.bench_spec.proofs.AfterLemmas.{flat_map-snoc}
use Rattle.bench_spec.proofs.BookLemmas.{entry_of, moves_next}
use Rattle.bench_spec.proofs.PlaceLemmas.{place_stays}

pub role_sound : (a b : Role) → is_same_role a b ≡ true → a ≡ b
role_sound Peer Peer h = refl
role_sound Peer Client h = absurd (false≢true h)
role_sound Peer Server h = absurd (false≢true h)
role_sound Client Peer h = absurd (false≢true h)
role_sound Client Client h = refl
role_sound Client Server h = absurd (false≢true h)
role_sound Server Peer h = absurd (false≢true h)
role_sound Server Client h = absurd (false≢true h)
role_sound Server Server h = refl

pub role_itself : (a : Role) → is_same_role a a ≡ true
role_itself Peer = refl
role_itself Client = refl
role_itself Server = refl

pub both_true : (a b : Bool) → (a && b) ≡ true → (a ≡ true) × (b ≡ true)
both_true true b h = (refl, h)
both_true false b h = absurd (false≢true h)

same_fields : (r s : Role) (n m : List ℕ) → r ≡ s → n ≡ m → key_of r n ≡ key_of s m
same_fields r s n m e f = rw (e, f) refl

pub key_sound : (a b : Key) → is_same_key a b ≡ true → a ≡ b
key_sound a b h =
    let parts = both_true (is_same_role a.role b.role) (bytes_eq a.name b.name) h in
    same_fields a.role b.role a.name b.name (role_sound a.role b.role parts.0)
    ((bytes_eq-Decides a.name b.name).0 parts.1)

pub key_itself : (a : Key) → is_same_key a a ≡ true
key_itself a = rw (role_itself a.role, (bytes_eq-Decides a.name a.name).1 refl) refl

itself : (n : ℕ) → (n == n) ≡ true
itself n = grind (arith, nat_tests)

-- an entry in which a machine moves brings it into its directory
keys_of_move : (node : Node) (step : Step) (item : MachineItem) (moved : Moved)
    → keys_in node (home node.shards item.key.name) (entry_of step (Some (ToMachine item)) (Some (Move moved)))
    ≡ item.key ∷ []
keys_of_move node step item moved =
    ap (λ (b : Bool). map (λ (i : MachineItem). i.key) (if b then item ∷ [] else []))
    (itself (home node.shards item.key.name))

-- so its number stays from there on
pub keys_apart : (node : Node) (past rest : List Entry) (step : Step) (item : MachineItem) (moved : Moved)
    → map (key_of Peer) (peers_in node (home node.shards item.key.name))
    ++ flat_map (keys_in node (home node.shards item.key.name))
    (past ++ entry_of step (Some (ToMachine item)) (Some (Move moved)) ∷ rest)
    ≡ (map (key_of Peer) (peers_in node (home node.shards item.key.name))
    ++ flat_map (keys_in node (home node.shards item.key.name)) past) ++ item.key
    ∷ flat_map (keys_in node (home node.shards item.key.name)) rest
keys_apart node past rest step item moved =
    ap (λ ks. peers ++ ks)
    (flat_map-append (keys_in node shard) past (e ∷ rest)
    ∙ ap (λ ks. flat_map (keys_in node shard) past ++ (ks ++ flat_map (keys_in node shard) rest))
    (keys_of_move node step item moved))
    ∙ sym (append_assoc peers (flat_map (keys_in node shard) past) (item.key ∷ flat_map (keys_in node shard) rest))
  where
    shard : ℕ
    shard = home node.shards item.key.name

    peers : List Key
    peers = map (key_of Peer) (peers_in node shard)

    e : Entry
    e = entry_of step (Some (ToMachine item)) (Some (Move moved))

pub number_stays : (node : Node) (past rest : List Entry) (step : Step) (item : MachineItem) (moved : Moved)
    → number_for node (past ++ entry_of step (Some (ToMachine item)) (Some (Move moved)) ∷ rest) item.key
    ≡ number_for node past item.key
number_stays node past rest step item moved =
    ap (number_at shard)
    (ap (λ ks. position_or_len (λ k. is_same_key k item.key) (distinct is_same_key ks))
    (keys_apart node past rest step item moved)
    ∙ place_stays is_same_key key_sound (peers ++ flat_map (keys_in node shard) past) item.key
    (flat_map (keys_in node shard) rest) (key_itself item.key))
  where
    shard : ℕ
    shard = home node.shards item.key.name

    peers : List Key
    peers = map (key_of Peer) (peers_in node shard)

-- runs, one behind the other
pub run_append : (laws : Laws) (table : Contents) (s : MachineState) (xs ys : List Moved)
    → IsRun laws table s xs → IsRun laws table (state_after s xs) ys → IsRun laws table s (xs ++ ys)
run_append laws table s [] ys h k = k
run_append laws table s (x ∷ xs) ys h k = (h.0, h.1, run_append laws table x.after xs ys h.2 k)

pub after_append : (s : MachineState) (xs ys : List Moved) → state_after s (xs ++ ys) ≡ state_after (state_after s xs) ys
after_append s [] ys = refl
after_append s (x ∷ xs) ys = after_append x.after xs ys

-- one entry: where a machine stands in a longer log, and its moves in that entry
abbrev stands_in : Settings → List Entry → List Entry → Key → MachineState
stands_in settings whole past key = state_after (start (number_for settings.node whole key)) (moves_of past key)

no_moves : (laws : Laws) (table : Contents) (s : MachineState) (b : Bool)
    → IsRun laws table s ((if b then [] else []) ++ [])
no_moves laws table s true = tt
no_moves laws table s false = tt

own_move : (settings : Settings) (past rest : List Entry) (step : Step) (item : MachineItem) (moved : Moved)
    → MovesNext settings past item moved
    → IsRun settings.node.laws (table_of settings item.key.role)
    (stands_in settings (past ++ entry_of step (Some (ToMachine item)) (Some (Move moved)) ∷ rest) past item.key)
    (moved ∷ [])
own_move settings past rest step item moved next = (
  next.before ∙ ap (λ n. state_after (start n) (moves_of past item.key))
      (sym (number_stays settings.node past rest step item moved)),
  next.move,
  tt,
)

move_run : (settings : Settings) (key : Key) (past rest : List Entry) (step : Step) (item : MachineItem) (moved : Moved)
    (b : Bool) → is_same_key key item.key ≡ b → MovesNext settings past item moved
    → IsRun settings.node.laws (table_of settings key.role)
    (stands_in settings (past ++ entry_of step (Some (ToMachine item)) (Some (Move moved)) ∷ rest) past key)
    ((if b then moved ∷ [] else []) ++ [])
move_run settings key past rest step item moved true is next =
    subst (λ k. IsRun settings.node.laws (table_of settings k.role)
    (stands_in settings (past ++ entry_of step (Some (ToMachine item)) (Some (Move moved)) ∷ rest) past k)
    (moved ∷ [])) (sym (key_sound key item.key is)) (own_move settings past rest step item moved next)
move_run settings key past rest step item moved false is next = tt

entry_run : (settings : Settings) (key : Key) (past rest : List Entry) (step : Step) (item : Option Item)
    (handled : Option Handled) → HasParts settings past (entry_of step item handled)
    → IsRun settings.node.laws (table_of settings key.role)
    (stands_in settings (past ++ entry_of step item handled ∷ rest) past key)
    (moves_in key (entry_of step item handled))
entry_run settings key past rest step None handled parts = tt
entry_run settings key past rest step (Some (ToLine i)) handled parts = tt
entry_run settings key past rest step (Some (Dial p g)) handled parts = tt
entry_run settings key past rest step (Some (Undial p g)) handled parts = tt
entry_run settings key past rest step (Some (Arm m g t)) handled parts = tt
entry_run settings key past rest step (Some (Disarm m)) handled parts = tt
entry_run settings key past rest step (Some (ToMachine i)) None parts =
    no_moves settings.node.laws (table_of settings key.role)
    (stands_in settings (past ++ entry_of step (Some (ToMachine i)) None ∷ rest) past key) (is_same_key key i.key)
entry_run settings key past rest step (Some (ToMachine i)) (Some TooBusy) parts =
    no_moves settings.node.laws (table_of settings key.role)
    (stands_in settings (past ++ entry_of step (Some (ToMachine i)) (Some TooBusy) ∷ rest) past key)
    (is_same_key key i.key)
entry_run settings key past rest step (Some (ToMachine i)) (Some (Stale s)) parts =
    no_moves settings.node.laws (table_of settings key.role)
    (stands_in settings (past ++ entry_of step (Some (ToMachine i)) (Some (Stale s)) ∷ rest) past key)
    (is_same_key key i.key)
entry_run settings key past rest step (Some (ToMachine i)) (Some (Move m)) parts =
    move_run settings key past rest step i m (is_same_key key i.key) refl (moves_next settings past step i m parts)

-- all of them
moves-snoc : (past : List Entry) (e : Entry) (key : Key)
    → moves_of (past ++ e ∷ []) key ≡ moves_of past key ++ moves_in key e
moves-snoc past e key = flat_map-snoc (moves_in key) past e

runs_from : (settings : Settings) (key : Key) (past rest : List Entry) → EachAfter (MayFollow settings) past rest
    → IsRun settings.node.laws (table_of settings key.role) (stands_in settings (past ++ rest) past key)
    (moves_of rest key)
runs_from settings key past [] legal = tt
runs_from settings key past (e ∷ rest) legal =
    run_append settings.node.laws (table_of settings key.role) (stands_in settings (past ++ e ∷ rest) past key)
    (moves_in key e) (moves_of rest key)
    (entry_run settings key past rest e.step e.item e.handled legal.0.parts)
    (subst (λ s. IsRun settings.node.laws (table_of settings key.role) s (moves_of rest key)) same
    (runs_from settings key (past ++ e ∷ []) rest legal.1))
  where
    same : stands_in settings ((past ++ e ∷ []) ++ rest) (past ++ e ∷ []) key
        ≡ state_after (stands_in settings (past ++ e ∷ rest) past key) (moves_in key e)
    same = ap (λ whole. stands_in settings whole (past ++ e ∷ []) key) (append_assoc past (e ∷ []) rest)
        ∙ ap (state_after (start (number_for settings.node (past ++ e ∷ rest) key))) (moves-snoc past e key)
        ∙ after_append (start (number_for settings.node (past ++ e ∷ rest) key)) (moves_of past key) (moves_in key e)

pub IsLegal-runs : (settings : Settings) (log : List Entry) → IsLegal settings log → AreRuns settings log
IsLegal-runs settings log legal key = runs_from settings key [] log legal
