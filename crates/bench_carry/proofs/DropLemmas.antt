-- An item is dropped: it comes where it is for, and then the hand is emptied.
use Rattle.std.proofs.Common.{◌≡◌, ◌+◌, ◌-◌, ◌<◌, ℕ, zero, suc, List, [], ◌∷◌, ◌++◌, length, take, Bool, true, false, Some, None, refl, sym, ◌∙◌, ap, subst, arith}
use Rattle.std.specs.Prelude.{◌==◌, IfOk, Result, Ok, Err, get_or, slice_get, slice_set, if◌then◌else◌}
use Rattle.std.specs.FinMap as map
use Rattle.std.proofs.Math.Seq.{take-append_seam}
use Rattle.std.proofs.lemmas.Option.{get_or_from_slice_get, none-some, slice_get_within}
use Rattle.bench_item.specs.declared.item.Item.{Item}
use Rattle.bench_item.specs.declared.item.Item.TheVariants.{Arm, Dial, Disarm, ToLine, ToMachine, Undial}
use Rattle.bench_item.specs.declared.item.MachineItem.{MachineItem}
use Rattle.bench_item.specs.declared.source.Source.{Source}
use Rattle.bench_item.specs.declared.source.Source.TheVariants.{Clock, Desk, Line, Shard}
use Rattle.bench_item.specs.Keys.{home}
use Rattle.bench_line.specs.Line.{LineView}
use Rattle.bench_line.specs.Talk.{Meaning}
use Rattle.bench_queue.specs.Inbox.{put_in}
use Rattle.bench_queue.specs.Outbox.{OutboxState, dropped_one, has_hand}
use Rattle.bench_shard.specs.View.{ShardView, with_inbox, with_outbox}
use Rattle.bench_undo.specs.declared.undo.Arrival.{Arrival}
use Rattle.bench_views.specs.Behind.{came_to, changed_at, dropped_from}
use Rattle.bench_views.specs.Looks.{dropped_on}
use Rattle.bench_views.specs.Stored.{Stored}
use Rattle.bench_views.proofs.Each.{some-same}
use Rattle.tick_wheel.specs.Timers.{ByOwner, with_timer}
use Rattle.bench_carry.specs.Dropped.{Arrives, DropsTo}
use Rattle.bench_carry.specs.Hands.{Holds}
use Rattle.bench_carry.specs.Undone.{unarrived}
use Rattle.bench_carry.proofs.LiftLemmas.{set-back, set-changed}

-- two changes of a list that do not meddle with one another, in either order
pub changed-either : {X : Type 0} (f g : X → X) (a b : ℕ) (xs : List X) → ((x : X) → f (g x) ≡ g (f x))
    → changed_at a f (changed_at b g xs) ≡ changed_at b g (changed_at a f xs)
changed-either f g a b [] apart = refl
changed-either f g zero zero (x ∷ xs) apart = ap (λ y. y ∷ xs) (apart x)
changed-either f g zero (suc b) (x ∷ xs) apart = refl
changed-either f g (suc a) zero (x ∷ xs) apart = refl
changed-either f g (suc a) (suc b) (x ∷ xs) apart = ap (λ ys. x ∷ ys) (changed-either f g a b xs apart)

-- one more item behind a list in which one is changed
pub changed-longer : {X : Type 0} (place : ℕ) (f : X → X) (xs ys : List X) → place < length xs
    → changed_at place f (xs ++ ys) ≡ changed_at place f xs ++ ys
changed-longer place f [] ys within = absurd (omega arith)
changed-longer zero f (x ∷ xs) ys within = refl
changed-longer (suc place) f (x ∷ xs) ys within = ap (λ zs. x ∷ zs) (changed-longer place f xs ys (omega arith))

-- what stands in a list stands in a longer one
pub longer-has : {X : Type 0} (xs ys : List X) (place : ℕ) (x : X) → slice_get xs place ≡ Some x → slice_get (xs ++ ys) place ≡ Some x
longer-has [] ys place x there = absurd (none-some x there)
longer-has (y ∷ xs) ys zero x there = there
longer-has (y ∷ xs) ys (suc place) x there = longer-has xs ys place x there

-- a front of two lists that is as long as the first
pub front-of : {X : Type 0} (n : ℕ) (xs ys : List X) → n ≡ length xs → take n (xs ++ ys) ≡ xs
front-of n xs ys size = ap (λ k. take k (xs ++ ys)) size ∙ take-append_seam xs ys

-- the count of a line stands at its place
pub count_at : (carried : List ℕ) (line count : ℕ) → dropped_on carried line ≡ Some count → slice_get carried (line - 1) ≡ Some count
count_at carried line count there = by (line == 0) refl
  where
    by : (b : Bool) → (line == 0) ≡ b → slice_get carried (line - 1) ≡ Some count
    by true is = absurd (none-some count (ap (λ b. if b then None else slice_get carried (line - 1)) (sym is) ∙ there))
    by false is = ap (λ b. if b then None else slice_get carried (line - 1)) (sym is) ∙ there

-- one more is dropped of a line, and that is taken back
pub count-more : (carried : List ℕ) (line count : ℕ) → dropped_on carried line ≡ Some count
    → slice_set carried (line - 1) (get_or carried (line - 1) 0 + 1) ≡ changed_at (line - 1) (λ n. n + 1) carried
count-more carried line count there =
    set-changed carried (line - 1) count (get_or carried (line - 1) 0 + 1) (λ n. n + 1) (count_at carried line count there)
    (ap (λ n. n + 1) (get_or_from_slice_get carried (line - 1) count 0 (count_at carried line count there)))

pub count-back : (carried : List ℕ) (line count : ℕ) → dropped_on carried line ≡ Some count
    → changed_at (line - 1) (λ n. n - 1) (slice_set carried (line - 1) (get_or carried (line - 1) 0 + 1)) ≡ carried
count-back carried line count there =
    set-back carried (line - 1) count (get_or carried (line - 1) 0 + 1) (λ n. n + 1) (λ n. n - 1) (count_at carried line count there) more
    (ap (λ n. n - 1) more ∙ omega arith)
  where
    more : get_or carried (line - 1) 0 + 1 ≡ count + 1
    more = ap (λ n. n + 1) (get_or_from_slice_get carried (line - 1) count 0 (count_at carried line count there))

-- the count of a line is what is read there
pub count_read : (carried : List ℕ) (line count : ℕ) → dropped_on carried line ≡ Some count → get_or carried (line - 1) 0 ≡ count
count_read carried line count there = get_or_from_slice_get carried (line - 1) count 0 (count_at carried line count there)

dropped_on-longer : (carried more : List ℕ) (line count : ℕ) → dropped_on carried line ≡ Some count
    → dropped_on (carried ++ more) line ≡ Some count
dropped_on-longer carried more line count there = by (line == 0) refl
  where
    by : (b : Bool) → (line == 0) ≡ b → dropped_on (carried ++ more) line ≡ Some count
    by true is = absurd (none-some count (ap (λ b. if b then None else slice_get carried (line - 1)) (sym is) ∙ there))
    by false is =
        ap (λ b. if b then None else slice_get (carried ++ more) (line - 1)) is ∙ longer-has carried more (line - 1) count
        (count_at carried line count there)

-- an event that comes to a shard leaves each outbox
came-outbox : (place : ℕ) (f : ShardView → ShardView) (shards : List ShardView) (shard : ℕ) (v : ShardView) → ((x : ShardView)
    → (f x).outbox ≡ x.outbox)
    → slice_get shards shard ≡ Some v → (w : ShardView) × (slice_get (changed_at place f shards) shard ≡ Some w) × (w.outbox ≡ v.outbox)
came-outbox place f [] shard v keeps there = absurd (none-some v there)
came-outbox zero f (x ∷ shards) zero v keeps there = (f x, refl, keeps x ∙ ap (λ y. y.outbox) (some-same x v there))
came-outbox zero f (x ∷ shards) (suc shard) v keeps there = (v, there, refl)
came-outbox (suc place) f (x ∷ shards) zero v keeps there = (v, there, refl)
came-outbox (suc place) f (x ∷ shards) (suc shard) v keeps there = came-outbox place f shards shard v keeps there

-- the hand holds the item still once an event came to a shard, or a line was opened
holds-came : (source : Source) (place : ℕ) (item : MachineItem) (shards : List ShardView) (outs : List OutboxState) (lifted : ℕ) (carried : List ℕ)
    → Holds source shards outs lifted carried
    → Holds source (changed_at place (λ v. with_inbox v (put_in v.inbox (item ∷ []))) shards) outs lifted carried
holds-came (Line line) place item shards outs lifted carried holds = holds
holds-came (Shard shard) place item shards outs lifted carried holds =
    let w = came-outbox place (λ v. with_inbox v (put_in v.inbox (item ∷ []))) shards shard holds.0 (λ x. refl) holds.1 in
    (w.0, w.1, ap has_hand w.2 ∙ holds.2)
holds-came (Desk desk) place item shards outs lifted carried holds = holds
holds-came Clock place item shards outs lifted carried holds = holds

holds-opened : (source : Source) (shards : List ShardView) (outs : List OutboxState) (lifted : ℕ) (carried : List ℕ)
    → Holds source shards outs lifted carried → Holds source shards outs lifted (carried ++ 0 ∷ [])
holds-opened (Line line) shards outs lifted carried holds = (holds.0, dropped_on-longer carried (0 ∷ []) line holds.0 holds.1, holds.2)
holds-opened (Shard shard) shards outs lifted carried holds = holds
holds-opened (Desk desk) shards outs lifted carried holds = holds
holds-opened Clock shards outs lifted carried holds = holds

-- so it does once an item came where it is for
pub holds-arrived : (m : Meaning) (source : Source) (item : Item) (old new : Stored) (outs : List OutboxState) (lifted : ℕ)
    → Holds source old.shards outs lifted old.carried → Arrives m item old new → Holds source new.shards outs lifted new.carried
holds-arrived m source (ToMachine item) old new outs lifted holds came =
    subst (λ s. Holds source s.shards outs lifted s.carried) (sym came)
    (holds-came source (home (length old.shards) item.key.name) item old.shards outs lifted old.carried holds)
holds-arrived m source (ToLine item) old new outs lifted holds came =
    subst (λ s. Holds source s.shards outs lifted s.carried) (sym came.2) holds
holds-arrived m source (Dial peer generation) old new outs lifted holds came =
    subst (λ s. Holds source s.shards outs lifted s.carried) (sym came.2) (holds-opened source old.shards outs lifted old.carried holds)
holds-arrived m source (Undial peer generation) old new outs lifted holds came =
    subst (λ s. Holds source s.shards outs lifted s.carried) (sym came.2) holds
holds-arrived m source (Arm machine generation ticks) old new outs lifted holds came =
    subst (λ s. Holds source s.shards outs lifted s.carried) (sym came.1) holds
holds-arrived m source (Disarm machine) old new outs lifted holds came =
    subst (λ s. Holds source s.shards outs lifted s.carried) (sym came) holds

-- a hand is emptied before or after other parts are written
lines-aside : (source : Source) (s : Stored) (lines : List LineView)
    → dropped_from source (record s { lines = lines }) ≡ record (dropped_from source s) { lines = lines }
lines-aside (Line line) s lines = refl
lines-aside (Shard shard) s lines = refl
lines-aside (Desk desk) s lines = refl
lines-aside Clock s lines = refl

timers-aside : (source : Source) (s : Stored) (timers : ByOwner)
    → dropped_from source (record s { timers = timers }) ≡ record (dropped_from source s) { timers = timers }
timers-aside (Line line) s timers = refl
timers-aside (Shard shard) s timers = refl
timers-aside (Desk desk) s timers = refl
timers-aside Clock s timers = refl

came-aside : (source : Source) (s : Stored) (place : ℕ) (item : MachineItem)
    → dropped_from source (came_to place item s) ≡ came_to place item (dropped_from source s)
came-aside (Line line) s place item = refl
came-aside (Shard shard) s place item =
    ap (λ shards. record s { shards = shards })
    (changed-either (λ v. with_outbox v (dropped_one v.outbox)) (λ v. with_inbox v (put_in v.inbox (item ∷ []))) shard place s.shards
    (λ v. refl))
came-aside (Desk desk) s place item = refl
came-aside Clock s place item = refl

opened-aside : (source : Source) (s : Stored) (outs : List OutboxState) (lifted : ℕ) (lines : List LineView)
    → Holds source s.shards outs lifted s.carried
    → dropped_from source (record s { lines = lines; carried = s.carried ++ 0 ∷ [] })
    ≡ record (dropped_from source s) { lines = lines; carried = (dropped_from source s).carried ++ 0 ∷ [] }
opened-aside (Line line) s outs lifted lines holds =
    ap (λ carried. record s { lines = lines; carried = carried })
    (changed-longer (line - 1) (λ n. n + 1) s.carried (0 ∷ [])
    (slice_get_within s.carried (line - 1) holds.0 (count_at s.carried line holds.0 holds.1)))
opened-aside (Shard shard) s outs lifted lines holds = refl
opened-aside (Desk desk) s outs lifted lines holds = refl
opened-aside Clock s outs lifted lines holds = refl

-- An item that came where it is for, and whose hand was emptied then, is dropped.
pub drops-arrived : (m : Meaning) (source : Source) (item : Item) (old mid new : Stored) (outs : List OutboxState) (lifted : ℕ)
    → Holds source old.shards outs lifted old.carried → Arrives m item old mid → new ≡ dropped_from source mid
    → DropsTo m source item old new
drops-arrived m source (ToMachine item) old mid new outs lifted holds came emptied =
    emptied ∙ ap (dropped_from source) came ∙ came-aside source old (home (length old.shards) item.key.name) item
drops-arrived m source (ToLine item) old mid new outs lifted holds came emptied =
    (came.0, came.1, emptied ∙ ap (dropped_from source) came.2 ∙ lines-aside source old came.0)
drops-arrived m source (Dial peer generation) old mid new outs lifted holds came emptied =
    (came.0, came.1, emptied ∙ ap (dropped_from source) came.2 ∙ opened-aside source old outs lifted came.0 holds)
drops-arrived m source (Undial peer generation) old mid new outs lifted holds came emptied =
    (came.0, came.1, emptied ∙ ap (dropped_from source) came.2 ∙ lines-aside source old came.0)
drops-arrived m source (Arm machine generation ticks) old mid new outs lifted holds came emptied = (
  came.0,
  emptied ∙ ap (dropped_from source) came.1
      ∙ timers-aside source old (with_timer old.timers machine (Some (record { generation = generation; due = came.0 }))),
)
drops-arrived m source (Disarm machine) old mid new outs lifted holds came emptied =
    emptied ∙ ap (dropped_from source) came ∙ timers-aside source old (with_timer old.timers machine None)

-- parts of which nothing is known
pub no_parts : Stored
no_parts = record { shards = []; outboxes = []; lines = []; carried = []; books = []; timers = map.empty }

-- what is taken back of some parts is taken back of all
pub undone-within : {E : Type 0} (r : Result Arrival E) (f g h : Stored → Stored) → IfOk r (λ a. (s : Stored) → unarrived a (f s) ≡ g s)
    → IfOk r (λ a. (s : Stored) → unarrived a (f (h s)) ≡ g (h s))
undone-within (Ok a) f g h undone = λ s. undone (h s)
undone-within (Err e) f g h undone = undone
