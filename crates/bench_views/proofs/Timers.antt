-- The timers of machines, with one more entry, and of a wheel that goes with them.
use Rattle.std.proofs.Common.{◌≡◌, ℕ, List, [], ◌∷◌, ◌++◌, Bool, true, false, cond, Option, Some, None, refl, sym, ◌∙◌, ap, arith}
use Rattle.std.specs.Prelude.{◌==◌, flat_map, unwrap_or, if◌then◌else◌}
use Rattle.std.specs.List.{last_or}
use Rattle.std.specs.FinMap as map
use Rattle.std.specs.Ordering.{nat_cmp}
use Rattle.std.proofs.lemmas.Bool.Decides.{nat_tests}
use Rattle.std.proofs.lemmas.List.{append-nil}
use Rattle.tick_wheel.specs.declared.timer.Armed.{Armed}
use Rattle.tick_wheel.specs.Timers.{ByOwner, Timers, after_arm, at_start, moment_after, with_timer, with_timer_of}
use Rattle.tick_wheel.proofs.CallerLemmas.{get-with_timer}
use Rattle.tab_step.specs.declared.machine.Event.{Event}
use Rattle.bench_item.specs.declared.entry.Entry.{Entry}
use Rattle.bench_item.specs.declared.entry.Handled.{Handled}
use Rattle.bench_item.specs.declared.item.Item.{Item}
use Rattle.bench_item.specs.declared.item.Item.TheVariants.{ToMachine, ToLine, Dial, Undial, Arm, Disarm}
use Rattle.bench_item.specs.declared.item.LineItem.{LineItem}
use Rattle.bench_item.specs.declared.item.MachineItem.{MachineItem}
use Rattle.bench_item.specs.declared.key.Key.{Key}
use Rattle.bench_item.specs.declared.source.Source.{Source}
use Rattle.bench_item.specs.declared.step.Step.TheVariants.{Joined, Dialled, Came, Lost, Told, Fired, Lift, Drop, Work}
use Rattle.bench_spec.specs.Items.{armed, timer_change}
use Rattle.bench_spec.proofs.AfterLemmas.{flat_map-snoc}
use Rattle.bench_spec.proofs.BookLemmas.{entry_of}
use Rattle.bench_views.specs.Timers.{IsArmedSo, generation_of}

last-snoc : {X : Type 0} (o : Option X) (xs : List X) (x : X) → last_or o (xs ++ x ∷ []) ≡ Some x
last-snoc o [] x = refl
last-snoc o (y ∷ xs) x = last-snoc (Some y) xs x

-- The timer of a machine stays with one more entry that makes nothing of it,
pub armed-same : (log : List Entry) (e : Entry) (machine : ℕ) → timer_change machine e ≡ []
    → armed (log ++ e ∷ []) machine ≡ armed log machine
armed-same log e machine none =
    ap (λ timers. unwrap_or (last_or None timers) None)
    (flat_map-snoc (timer_change machine) log e ∙ ap (λ timers. flat_map (timer_change machine) log ++ timers) none
    ∙ append-nil (flat_map (timer_change machine) log))

-- and is what one makes of it.
pub armed-changed : (log : List Entry) (e : Entry) (machine : ℕ) (timer : Option ℕ)
    → timer_change machine e ≡ timer ∷ []
    → armed (log ++ e ∷ []) machine ≡ timer
armed-changed log e machine timer one =
    ap (λ timers. unwrap_or (last_or None timers) None)
    (flat_map-snoc (timer_change machine) log e ∙ ap (λ timers. flat_map (timer_change machine) log ++ timers) one)
    ∙ ap (λ o. unwrap_or o None) (last-snoc None (flat_map (timer_change machine) log) timer)

-- an entry makes this of one machine's timer, and nothing of the others
abbrev pub ChangesTimer : Entry → ℕ → Option ℕ → Type 0
ChangesTimer e owner timer = (machine : ℕ) → timer_change machine e ≡ (if owner == machine then timer ∷ [] else [])

pub armed-by : (log : List Entry) (e : Entry) (owner : ℕ) (timer : Option ℕ) → ChangesTimer e owner timer
    → (machine : ℕ) → armed (log ++ e ∷ []) machine ≡ (if owner == machine then timer else armed log machine)
armed-by log e owner timer change machine = by (owner == machine) (change machine)
  where
    by : (b : Bool) → timer_change machine e ≡ (if b then timer ∷ [] else [])
        → armed (log ++ e ∷ []) machine ≡ (if b then timer else armed log machine)
    by true is = armed-changed log e machine timer is
    by false is = armed-same log e machine is

-- what the entries do that change a timer: the drop of an Arm and of a Disarm, and a firing
pub changes-arm : (source : Source) (owner generation ticks : ℕ) (handled : Option Handled)
    → ChangesTimer (entry_of (Drop source) (Some (Arm owner generation ticks)) handled) owner (Some generation)
changes-arm source owner generation ticks handled machine =
    append-nil (if owner == machine then Some generation ∷ [] else [])

pub changes-disarm : (source : Source) (owner : ℕ) (handled : Option Handled)
    → ChangesTimer (entry_of (Drop source) (Some (Disarm owner)) handled) owner None
changes-disarm source owner handled machine = append-nil (if owner == machine then None ∷ [] else [])

pub changes-fired : (owner generation : ℕ) (item : Option Item) (handled : Option Handled)
    → ChangesTimer (entry_of (Fired owner generation) item handled) owner None
changes-fired owner generation item handled machine = refl

-- the timer of each machine behind the drop of an Arm,
pub armed-arm : (log : List Entry) (source : Source) (owner generation ticks : ℕ) (handled : Option Handled)
    (machine : ℕ)
    → armed (log ++ entry_of (Drop source) (Some (Arm owner generation ticks)) handled ∷ []) machine
    ≡ (if owner == machine then Some generation else armed log machine)
armed-arm log source owner generation ticks handled machine =
    armed-by log (entry_of (Drop source) (Some (Arm owner generation ticks)) handled) owner (Some generation)
    (changes-arm source owner generation ticks handled) machine

-- behind that of a Disarm,
pub armed-disarm : (log : List Entry) (source : Source) (owner : ℕ) (handled : Option Handled) (machine : ℕ)
    → armed (log ++ entry_of (Drop source) (Some (Disarm owner)) handled ∷ []) machine
    ≡ (if owner == machine then None else armed log machine)
armed-disarm log source owner handled machine =
    armed-by log (entry_of (Drop source) (Some (Disarm owner)) handled) owner None
    (changes-disarm source owner handled) machine

-- behind a firing,
pub armed-fired : (log : List Entry) (owner generation : ℕ) (item : Option Item) (handled : Option Handled)
    (machine : ℕ)
    → armed (log ++ entry_of (Fired owner generation) item handled ∷ []) machine
    ≡ (if owner == machine then None else armed log machine)
armed-fired log owner generation item handled machine =
    armed-by log (entry_of (Fired owner generation) item handled) owner None
    (changes-fired owner generation item handled) machine

-- An entry that makes nothing of any timer: none of a line, a desk, a lift or work does,
abbrev pub KeepsTimers : Entry → Type 0
KeepsTimers e = (machine : ℕ) → timer_change machine e ≡ []

pub keeps-joined : (item : Option Item) (handled : Option Handled) → KeepsTimers (entry_of Joined item handled)
keeps-joined item handled machine = refl

pub keeps-dialled : (line : ℕ) (item : Option Item) (handled : Option Handled)
    → KeepsTimers (entry_of (Dialled line) item handled)
keeps-dialled line item handled machine = refl

pub keeps-came : (line : ℕ) (piece : List ℕ) (item : Option Item) (handled : Option Handled)
    → KeepsTimers (entry_of (Came line piece) item handled)
keeps-came line piece item handled machine = refl

pub keeps-lost : (line : ℕ) (item : Option Item) (handled : Option Handled)
    → KeepsTimers (entry_of (Lost line) item handled)
keeps-lost line item handled machine = refl

pub keeps-told : (desk : ℕ) (key : Key) (told : Event) (item : Option Item) (handled : Option Handled)
    → KeepsTimers (entry_of (Told desk key told) item handled)
keeps-told desk key told item handled machine = refl

pub keeps-lifted : (source : Source) (item : Option Item) (handled : Option Handled)
    → KeepsTimers (entry_of (Lift source) item handled)
keeps-lifted source item handled machine = refl

pub keeps-worked : (shard : ℕ) (item : Option Item) (handled : Option Handled)
    → KeepsTimers (entry_of (Work shard) item handled)
keeps-worked shard item handled machine = refl

-- nor does the drop of another item.
pub keeps-dropped_event : (source : Source) (item : MachineItem) (handled : Option Handled)
    → KeepsTimers (entry_of (Drop source) (Some (ToMachine item)) handled)
keeps-dropped_event source item handled machine = refl

pub keeps-delivered : (source : Source) (item : LineItem) (handled : Option Handled)
    → KeepsTimers (entry_of (Drop source) (Some (ToLine item)) handled)
keeps-delivered source item handled machine = refl

pub keeps-dial : (source : Source) (peer generation : ℕ) (handled : Option Handled)
    → KeepsTimers (entry_of (Drop source) (Some (Dial peer generation)) handled)
keeps-dial source peer generation handled machine = refl

pub keeps-undialled : (source : Source) (peer generation : ℕ) (handled : Option Handled)
    → KeepsTimers (entry_of (Drop source) (Some (Undial peer generation)) handled)
keeps-undialled source peer generation handled machine = refl

-- No timer of a new wheel is armed, nor by the empty log.
pub is_armed_so-start : IsArmedSo at_start.armed []
is_armed_so-start machine = ap generation_of (map.get-empty nat_cmp machine)

-- A wheel goes with a log and one more entry that keeps the timers,
pub is_armed_so-kept : (timers : ByOwner) (log : List Entry) (e : Entry) → KeepsTimers e → IsArmedSo timers log
    → IsArmedSo timers (log ++ e ∷ [])
is_armed_so-kept timers log e keeps so machine = so machine ∙ sym (armed-same log e machine (keeps machine))

-- two tests of two numbers
same_test : (a b : ℕ) → (a == b) ≡ (b == a)
same_test a b = grind (arith, nat_tests)

-- with its timer for the machine whose timer the entry changes,
pub is_armed_so-changed : (timers : ByOwner) (log : List Entry) (e : Entry) (owner : ℕ) (timer : Option Armed)
    → ChangesTimer e owner (generation_of timer) → IsArmedSo timers log
    → IsArmedSo (with_timer timers owner timer) (log ++ e ∷ [])
is_armed_so-changed timers log e owner timer change so machine =
    ap generation_of (get-with_timer timers owner timer machine)
    ∙ ap (λ b. generation_of (cond b timer (map.get timers machine))) (same_test machine owner)
    ∙ by (owner == machine) ∙ sym (armed-by log e owner (generation_of timer) change machine)
  where
    by : (b : Bool)
        → generation_of (cond b timer (map.get timers machine)) ≡ (if b then generation_of timer else armed log machine)
    by true = refl
    by false = so machine

-- so where it arms one,
pub is_armed_so-arm : (wheel : Timers) (log : List Entry) (source : Source) (owner generation ticks : ℕ)
    (handled : Option Handled)
    → IsArmedSo wheel.armed log
    → IsArmedSo (after_arm wheel owner generation ticks).armed
    (log ++ entry_of (Drop source) (Some (Arm owner generation ticks)) handled ∷ [])
is_armed_so-arm wheel log source owner generation ticks handled so =
    is_armed_so-changed wheel.armed log (entry_of (Drop source) (Some (Arm owner generation ticks)) handled) owner
    (Some (record { generation = generation; due = moment_after wheel.moment ticks }))
    (changes-arm source owner generation ticks handled) so

-- where it disarms one,
pub is_armed_so-disarm : (wheel : Timers) (log : List Entry) (source : Source) (owner : ℕ) (handled : Option Handled)
    → IsArmedSo wheel.armed log
    → IsArmedSo (with_timer_of wheel owner None).armed
    (log ++ entry_of (Drop source) (Some (Disarm owner)) handled ∷ [])
is_armed_so-disarm wheel log source owner handled so =
    is_armed_so-changed wheel.armed log (entry_of (Drop source) (Some (Disarm owner)) handled) owner None
    (changes-disarm source owner handled) so

-- and where one fires.
pub is_armed_so-fired : (wheel : Timers) (log : List Entry) (owner generation : ℕ) (item : Option Item)
    (handled : Option Handled)
    → IsArmedSo wheel.armed log
    → IsArmedSo (with_timer_of wheel owner None).armed (log ++ entry_of (Fired owner generation) item handled ∷ [])
is_armed_so-fired wheel log owner generation item handled so =
    is_armed_so-changed wheel.armed log (entry_of (Fired owner generation) item handled) owner None
    (changes-fired owner generation item handled) so

-- A wheel goes with the log without its last entry, once the timer is put back that this changed.
pub is_armed_so-back : (timers : ByOwner) (log : List Entry) (e : Entry) (owner : ℕ) (made : Option ℕ)
    (timer : Option Armed)
    → ChangesTimer e owner made → generation_of timer ≡ armed log owner → IsArmedSo timers (log ++ e ∷ [])
    → IsArmedSo (with_timer timers owner timer) log
is_armed_so-back timers log e owner made timer change was so machine =
    ap generation_of (get-with_timer timers owner timer machine)
    ∙ ap (λ b. generation_of (cond b timer (map.get timers machine))) (same_test machine owner)
    ∙ by (owner == machine) refl
  where
    by : (b : Bool) → (owner == machine) ≡ b → generation_of (cond b timer (map.get timers machine)) ≡ armed log machine
    by true is =
        let same : owner ≡ machine = grind (arith, nat_tests, is) in
        was ∙ ap (armed log) same
    by false is =
        so machine ∙ armed-by log e owner made change machine ∙ ap (λ b. if b then made else armed log machine) is
