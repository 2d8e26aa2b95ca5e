-- What a world shows is what its log says.
use Rattle.std.proofs.Common.{◌≡◌, ◌<◌, ◌≤◌, ◌%◌, ℕ, zero, suc, List, [], ◌∷◌, length, Bool, true, false, Option, Some, None, refl, sym, ◌∙◌, ap, subst, arith, sum}
use Rattle.std.specs.Prelude.{IfOk, Result, Ok, Err, cond, nat_lt, option_map, slice_get, unwrap_or}
use Rattle.std.specs.List.{position, position_or_len}
use Rattle.std.specs.Option.{option_and_then}
use Rattle.std.specs.Str.{bytes_eq}
use Rattle.std.proofs.Math.Nat.{mod-lt}
use Rattle.std.proofs.lemmas.Bool.Decides.{nat_tests}
use Rattle.std.proofs.lemmas.List.{length-map}
use Rattle.std.proofs.lemmas.Option.{slice_get-map, slice_get_past}
use Rattle.acct_book.specs.Book.{Paged, totals_of}
use Rattle.tab_step.specs.declared.machine.MachineState.{MachineState}
use Rattle.bench_item.specs.declared.entry.Entry.{Entry}
use Rattle.bench_item.specs.declared.key.Key.{Key}
use Rattle.bench_item.specs.Keys.{home, number_at, place_of, shard_of}
use Rattle.bench_shard.specs.Names.{key_in, key_octets}
use Rattle.bench_shard.specs.Stands.{Stands}
use Rattle.bench_shard.specs.View.{ShardView, number_for, place_in, state_for}
use Rattle.bench_shard.proofs.ViewLemmas.{count, place-in, state-for}
use Rattle.bench_spec.specs.Booked.{book_at}
use Rattle.bench_spec.specs.Machines.{directory, number_of, place_in as logged_place, start, state_at, state_of}
use Rattle.bench_spec.specs.Settings.{Settings}
use Rattle.bench_views.proofs.Each.{some-same}
use Rattle.bench_views.proofs.Pages.{totals_of-page}
use Rattle.bench_core.specs.Firings.{numbered}
use Rattle.bench_core.specs.Inside.{IsShardCount, IsSound, settings_in}
use Rattle.bench_core.specs.declared.keeping.Core.TheInside.{Inside}

-- something stands within a list
pub within : {X : Type 0} (xs : List X) (k : ℕ) → k < length xs → (x : X) × (slice_get xs k ≡ Some x)
within [] k less = absurd (omega (arith, less))
within (x ∷ xs) zero less = (x, refl)
within (x ∷ xs) (suc k) less = within xs k (omega (arith, less))

-- there are as many shards as may be
pub shards_are : (w : Inside) → IsSound w → IsShardCount (length w.shards.items)
shards_are w sound = subst IsShardCount (sym sound.whole.tied.shard_count) sound.shards

-- the first of them has the peers of the node
pub record HasFirst (w : Inside) : Type 0 where
  pub v : ShardView
  pub there : slice_get w.shards.items 0 ≡ Some v
  pub peers : v.peers ≡ w.lines.rules.peers

pub first_of : (w : Inside) → IsSound w → HasFirst w
first_of w sound =
    let found = within w.shards.items 0 (shards_are w sound).0 in
    record { v = found.0; there = found.1; peers = (sound.whole.tied.shards 0 found.0 found.1).1.peers }

-- the shard of a machine is there
pub record HasHome (w : Inside) (key : Key) : Type 0 where
  pub v : ShardView
  pub there : slice_get w.shards.items (home (length w.shards.items) key.name) ≡ Some v
  pub number : home (settings_in w).node.shards key.name ≡ v.number
  pub stands : Stands (settings_in w) w.log.entries v

pub home_is : (w : Inside) (key : Key) → IsSound w → HasHome w key
home_is w key sound =
    let count : length w.shards.items ≡ (settings_in w).node.shards = sound.whole.tied.shard_count in
    let found = within w.shards.items (home (length w.shards.items) key.name) (mod-lt (sum key.name) (shards_are w sound).0) in
    let at = sound.whole.tied.shards (home (length w.shards.items) key.name) found.0 found.1 in
    record { v = found.0; there = found.1; number = ap (λ n. home n key.name) (sym count) ∙ sym at.0; stands = at.1 }

-- a first place lies within
place-within : {X : Type 0} (p : X → Bool) (xs : List X) (k : ℕ) → position p xs ≡ Some k → k < length xs
place-within p xs k is = by (nat_lt (position_or_len p xs) (length xs)) refl is
  where
    by : (b : Bool) → nat_lt (position_or_len p xs) (length xs) ≡ b → cond b (Some (position_or_len p xs)) None ≡ Some k → k < length xs
    by true test same = let first = some-same (position_or_len p xs) k same in grind (arith, nat_tests, test, first)
    by false test same = absurd cc

-- each machine of a shard has its state
each-state : (settings : Settings) (log : List Entry) (v : ShardView) → Stands settings log v → length v.names ≡ length v.states
each-state settings log v stands =
    count settings log v stands
    ∙ sym (ap length stands.states ∙ length-map (directory settings.node v.number log) (state_at settings.node log))

-- a machine stands where its shard has it
stands_at : (settings : Settings) (log : List Entry) (v : ShardView) (key : Key) → Stands settings log v → home settings.node.shards key.name ≡ v.number
    → (o : Option ℕ) → place_in v key ≡ o → option_and_then (slice_get v.states) o ≡ option_map (λ number. state_at settings.node log key) o
stands_at settings log v key stands here None is = refl
stands_at settings log v key stands here (Some k) is =
    let less : k < length v.states = omega (arith, place-within (bytes_eq (key_octets key)) v.names k is, each-state settings log v stands) in
    let there = within v.states k less in
    let own : state_for v key ≡ there.0 =
    ap (λ (o : Option ℕ). unwrap_or (slice_get v.states (unwrap_or o (length v.names))) (start (number_for v key))) is
    ∙ ap (λ (o : Option MachineState). unwrap_or o (start (number_for v key))) there.1 in
    there.1 ∙ ap Some (sym own ∙ sym (state-for settings log v key stands here))

-- what does not depend on the value
same-for : {X Y Z : Type 0} (f : X → Y) (z : Z) (o : Option X) → option_map (λ (x : X). z) o ≡ option_map (λ (y : Y). z) (option_map f o)
same-for f z None = refl
same-for f z (Some x) = refl

pub state-shown : (w : Inside) (key : Key) → IsSound w
    → option_and_then (λ (v : ShardView). option_and_then (slice_get v.states) (place_in v key)) (slice_get w.shards.items (home (length w.shards.items) key.name))
    ≡ state_of (settings_in w).node w.log.entries key
state-shown w key sound =
    let h = home_is w key sound in
    ap (option_and_then (λ (v : ShardView). option_and_then (slice_get v.states) (place_in v key))) h.there
    ∙ stands_at (settings_in w) w.log.entries h.v key h.stands h.number (place_in h.v key) refl
    ∙ ap (option_map (λ (n : ℕ). state_at (settings_in w).node w.log.entries key)) (place-in (settings_in w) w.log.entries h.v key h.stands h.number)
    ∙ same-for (number_at (home (settings_in w).node.shards key.name)) (state_at (settings_in w).node w.log.entries key)
    (logged_place (settings_in w).node w.log.entries key)

pub number-shown : (w : Inside) (key : Key) → IsSound w
    → option_and_then (λ (v : ShardView). option_map (number_at (home (length w.shards.items) key.name)) (place_in v key))
    (slice_get w.shards.items (home (length w.shards.items) key.name))
    ≡ number_of (settings_in w).node w.log.entries key
number-shown w key sound =
    let h = home_is w key sound in
    ap (option_and_then (λ (v : ShardView). option_map (number_at (home (length w.shards.items) key.name)) (place_in v key))) h.there
    ∙ ap (λ n. option_map (number_at (home n key.name)) (place_in h.v key)) sound.whole.tied.shard_count
    ∙ ap (option_map (number_at (home (settings_in w).node.shards key.name))) (place-in (settings_in w) w.log.entries h.v key h.stands h.number)

-- the machine of a number beyond the shards is not there
pub none-numbered : (w : Inside) (machine : ℕ) → IsSound w → (settings_in w).node.shards ≤ shard_of machine → numbered w.shards.items machine ≡ None
none-numbered w machine sound past =
    ap (option_and_then (λ (v : ShardView). option_map key_in (slice_get v.names (place_of machine))))
    (slice_get_past w.shards.items (shard_of machine) (omega (arith, past, sound.whole.tied.shard_count)))

-- a page of the book has the totals of its accounts
pub totals-shown : (w : Inside) (account : ℕ) (page : Paged) → IsSound w → slice_get w.pages.items (account % w.page_count) ≡ Some page
    → totals_of page.book account ≡ totals_of (book_at (settings_in w) w.log.entries) account
totals-shown w account page sound there =
    ap (λ b. totals_of b account) (sound.whole.tied.books (account % w.page_count) page.book
    (slice_get-map (λ (p : Paged). p.book) w.pages.items (account % w.page_count) ∙ ap (option_map (λ (p : Paged). p.book)) there))
    ∙ totals_of-page (settings_in w) w.log.entries account

-- each account has a page
pub page-there : (w : Inside) (account : ℕ) → IsSound w → (page : Paged) × (slice_get w.pages.items (account % w.page_count) ≡ Some page)
page-there w account sound =
    within w.pages.items (account % w.page_count)
    (omega (arith, mod-lt account sound.paged, sound.whole.tied.book_count, length-map w.pages.items (λ (p : Paged). p.book)))

-- a fact of what was answered, where something was
pub if_ok : {X E : Type 0} (P Q : X → Type 0) (r : Result X E) → IfOk r P → ((x : X) → P x → Q x) → IfOk r Q
if_ok P Q (Ok x) h f = f x h
if_ok P Q (Err e) h f = tt
