-- What moves a machine has its number.
use Rattle.std.proofs.Common.{◌≡◌, ◌+◌, ◌++◌, ◌∷◌, ◌∙◌, ℕ, length, Bool, true, false, List, [], Option, Some, None, refl, sym, ap, subst, append_assoc, arith, drop, take}
use Rattle.std.specs.Prelude.{◌==◌, if◌then◌else◌, is_some, nat_lt, option_map, slice_get, unwrap_or}
use Rattle.std.specs.Option.{option_and_then}
use Rattle.std.specs.List.{position_or_len}
use Rattle.std.proofs.lemmas.Bool.{false≢true}
use Rattle.std.proofs.lemmas.Bool.Decides.{nat_tests}
use Rattle.bench_item.specs.declared.entry.Entry.{Entry}
use Rattle.bench_item.specs.declared.entry.Handled.{Handled}
use Rattle.bench_item.specs.declared.entry.Handled.TheVariants.{TooBusy, Stale, Move}
use Rattle.bench_item.specs.declared.entry.Moved.{Moved}
use Rattle.bench_item.specs.declared.item.Item.{Item}
use Rattle.bench_item.specs.declared.item.Item.TheVariants.{ToMachine, ToLine, Dial, Undial, Arm, Disarm}
use Rattle.bench_item.specs.declared.item.MachineItem.{MachineItem}
use Rattle.bench_item.specs.declared.key.Key.{Key}
use Rattle.bench_item.specs.declared.step.Step.{Step}
use Rattle.bench_item.specs.Keys.{Node, home, is_same_key, number_at}
use Rattle.bench_log.specs.Moves.{machine_in}
use Rattle.bench_spec.specs.Legal.{IsLegal, MayFollow}
use Rattle.bench_spec.specs.Machines.{directory, number_for, number_of}
use Rattle.bench_spec.specs.Settings.{Settings}
use Rattle.bench_spec.proofs.BookLemmas.{entry_of, moves_next}
use Rattle.bench_spec.proofs.LegalLemmas.{IsLegal-front, MayFollow-last}
use Rattle.bench_spec.proofs.RunLemmas.{key_sound, number_stays}
use Rattle.bench_show.specs.History.{moved_by, moves}
use Rattle.bench_show.proofs.PlaceLemmas.{split_at}

-- the number of a machine that is there is the one that it has
abbrev number_within : ℕ → ℕ → ℕ → Option ℕ
number_within shard place count = option_map (number_at shard) (if nat_lt place count then Some place else None)

abbrev IsThere : Option ℕ → Type 0
IsThere None = ⊥
IsThere (Some n) = Unit {0}

from_number : (shard place count number : ℕ) (b : Bool) → nat_lt place count ≡ b
    → number_within shard place count ≡ Some number → number_at shard place ≡ number
from_number shard place count number true is has =
    let found : number_within shard place count ≡ Some (number_at shard place) = rw is refl in
    ap (λ (o : Option ℕ). unwrap_or o 0) (sym found ∙ has)
from_number shard place count number false is has =
    let lacks : number_within shard place count ≡ None = rw is refl in
    absurd (subst IsThere (sym has ∙ lacks) tt)

number_is : (node : Node) (log : List Entry) (key : Key) (number : ℕ) → number_of node log key ≡ Some number
    → number_for node log key ≡ number
number_is node log key number has =
    from_number (home node.shards key.name)
    (position_or_len (λ k. is_same_key k key) (directory node (home node.shards key.name) log))
    (length (directory node (home node.shards key.name) log)) number
    (nat_lt (position_or_len (λ k. is_same_key k key) (directory node (home node.shards key.name) log))
    (length (directory node (home node.shards key.name) log))) refl has

-- a move that may follow is of the machine of its key's number
moved_number : (settings : Settings) (past rest : List Entry) (step : Step) (item : MachineItem) (moved : Moved)
    (key : Key) (number : ℕ) → MayFollow settings past (entry_of step (Some (ToMachine item)) (Some (Move moved)))
    → number_of settings.node (past ++ entry_of step (Some (ToMachine item)) (Some (Move moved)) ∷ rest) key ≡ Some number
    → is_same_key key item.key ≡ true → moved.machine ≡ number
moved_number settings past rest step item moved key number follows has same =
    let whole : List Entry = past ++ entry_of step (Some (ToMachine item)) (Some (Move moved)) ∷ rest in
    (moves_next settings past step item moved follows.parts).machine
    ∙ sym (number_stays settings.node past rest step item moved)
    ∙ ap (number_for settings.node whole) (sym (key_sound key item.key same))
    ∙ number_is settings.node whole key number has

-- an entry that may follow, by its parts
part_number : (settings : Settings) (past rest : List Entry) (step : Step) (item : Option Item) (handled : Option Handled)
    (key : Key) (number : ℕ) → MayFollow settings past (entry_of step item handled)
    → number_of settings.node (past ++ entry_of step item handled ∷ rest) key ≡ Some number
    → is_some (moved_by key item handled) ≡ true → machine_in (entry_of step item handled) ≡ Some number
part_number settings past rest step (Some (ToMachine item)) (Some (Move moved)) key number follows has moved_it =
    by (is_same_key key item.key) refl
  where
    by : (b : Bool) → is_same_key key item.key ≡ b
        → machine_in (entry_of step (Some (ToMachine item)) (Some (Move moved))) ≡ Some number
    by true same =
        ap (λ (n : ℕ). Some n) (moved_number settings past rest step item moved key number follows has same)
    by false apart =
        let lacks : is_some (moved_by key (Some (ToMachine item)) (Some (Move moved))) ≡ false = rw apart refl in
        absurd (false≢true (sym lacks ∙ moved_it))
part_number settings past rest step (Some (ToMachine item)) (Some TooBusy) key number follows has moved_it =
    absurd (false≢true moved_it)
part_number settings past rest step (Some (ToMachine item)) (Some (Stale state)) key number follows has moved_it =
    absurd (false≢true moved_it)
part_number settings past rest step (Some (ToMachine item)) None key number follows has moved_it =
    absurd (false≢true moved_it)
part_number settings past rest step None handled key number follows has moved_it = absurd (false≢true moved_it)
part_number settings past rest step (Some (ToLine i)) handled key number follows has moved_it =
    absurd (false≢true moved_it)
part_number settings past rest step (Some (Dial p g)) handled key number follows has moved_it =
    absurd (false≢true moved_it)
part_number settings past rest step (Some (Undial p g)) handled key number follows has moved_it =
    absurd (false≢true moved_it)
part_number settings past rest step (Some (Arm m g t)) handled key number follows has moved_it =
    absurd (false≢true moved_it)
part_number settings past rest step (Some (Disarm m)) handled key number follows has moved_it =
    absurd (false≢true moved_it)

-- in a legal log
number_moves : (settings : Settings) (log : List Entry) (key : Key) (number place : ℕ) (e : Entry) → IsLegal settings log
    → number_of settings.node log key ≡ Some number → slice_get log place ≡ Some e → moves key e ≡ true
    → machine_in e ≡ Some number
number_moves settings log key number place e legal has at moved_it =
    let past : List Entry = take place log in
    let rest : List Entry = drop (place + 1) log in
    let split : log ≡ past ++ e ∷ rest = split_at log place e at in
    let cut : log ≡ (past ++ e ∷ []) ++ rest = split ∙ sym (append_assoc past (e ∷ []) rest) in
    let front : IsLegal settings (past ++ e ∷ []) =
    IsLegal-front settings (past ++ e ∷ []) rest (subst (IsLegal settings) cut legal) in
    part_number settings past rest e.step e.item e.handled key number (MayFollow-last settings past e front)
    (subst (λ (whole : List Entry). number_of settings.node whole key ≡ Some number) split has) moved_it

-- what a log says of a place: the number of the machine that is moved there
machine_at : (log : List Entry) (place : ℕ) (e : Entry) (found : Option ℕ)
    → found ≡ option_and_then machine_in (slice_get log place) → slice_get log place ≡ Some e → machine_in e ≡ found
machine_at log place e found is at = sym (is ∙ ap (λ (o : Option Entry). option_and_then machine_in o) at)

itself : (n : ℕ) → (n == n) ≡ true
itself n = grind (arith, nat_tests)

-- an entry that moves the machine of another number doesn't move this one
pub other_here : (settings : Settings) (log : List Entry) (key : Key) (number machine place : ℕ) (e : Entry)
    (found : Option ℕ) → IsLegal settings log → number_of settings.node log key ≡ Some number
    → found ≡ option_and_then machine_in (slice_get log place) → found ≡ Some machine
    → (machine == number) ≡ false → slice_get log place ≡ Some e → moves key e ≡ false
other_here settings log key number machine place e found legal has is there apart at = by (moves key e) refl
  where
    by : (b : Bool) → moves key e ≡ b → moves key e ≡ false
    by false it = it
    by true it =
        let one : Some machine ≡ Some number =
        sym there ∙ sym (machine_at log place e found is at) ∙ number_moves settings log key number place e legal has at it in
        let same : machine ≡ number = ap (λ (o : Option ℕ). unwrap_or o 0) one in
        absurd (false≢true (sym apart ∙ rw same (itself number)))
