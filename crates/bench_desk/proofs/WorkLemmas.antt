-- A shard's part once it handled an item, or one was lifted from it.
use Rattle.std.proofs.Common.{◌≡◌, ◌∙◌, ◌+◌, ℕ, zero, suc, List, [], ◌∷◌, ◌++◌, Bool, true, false, Option, Some, None, length, map, refl, ap, subst, sym, arith, drop}
use Rattle.std.specs.Prelude.{flat_map, filter, option_to_list, nat_lt, slice_get, if◌then◌else◌, OnOk, OnErr, Result, Ok, Err}
use Rattle.std.proofs.lemmas.Bool.{eq-eqb, false≢true}
use Rattle.std.proofs.lemmas.Bool.Decides.{nat_tests}
use Rattle.std.proofs.lemmas.Grind.{flat_map-append}
use Rattle.std.proofs.lemmas.List.{append-nil, length-append}
use Rattle.std.specs.declared.alloc.AllocError.{AllocError}
use Rattle.acct_book.specs.Book.{Book, Paged}
use Rattle.bench_item.specs.Keys.{Node, home, node_of}
use Rattle.bench_item.specs.declared.entry.Entry.{Entry}
use Rattle.bench_item.specs.declared.entry.Handled.{Handled}
use Rattle.bench_item.specs.declared.item.Item.{Item}
use Rattle.bench_item.specs.declared.item.MachineItem.{MachineItem}
use Rattle.bench_item.specs.declared.source.Source.{Source}
use Rattle.bench_move.specs.Tables.{Tables}
use Rattle.bench_queue.specs.Inbox.{InboxView, items_in, next_in, worked_one}
use Rattle.bench_queue.specs.Outbox.{OutboxView, items_out, next_out}
use Rattle.bench_shard.specs.Refusal.{first_of, lacks_work_room}
use Rattle.bench_shard.specs.Stands.{HasMachines}
use Rattle.bench_shard.specs.View.{ShardView, with_outbox, with_paused}
use Rattle.bench_shard.specs.Works.{BecomesIn, after_work}
use Rattle.bench_shard.proofs.ViewLemmas.{item-of}
use Rattle.bench_shard.specs.declared.fault.WorkFault.{WorkFault}
use Rattle.bench_shard.specs.declared.fault.WorkFault.TheVariants as faults
use Rattle.bench_spec.specs.Items.{arrived, is_drop, worked}
use Rattle.bench_spec.specs.Machines.{is_for, is_work, machine_item}
use Rattle.bench_spec.specs.Merged.{Stamped, arrivals, arrivals_in}
use Rattle.bench_spec.specs.Refusal.{is_empty, is_log_full}
use Rattle.bench_desk.specs.Parts.{IsKept, PartView, entries_in}
use Rattle.bench_parts.specs.Views.{stamped_of}
use Rattle.bench_desk.specs.Working.{IsDone, IsLifted, IsUnwritten, IsWorked, lift_entry, or_full, taken_out, with_lift, work_entry, work_refusal}
use Rattle.bench_views.proofs.Handled.{moves-none}
use Rattle.bench_desk.proofs.MachineLemmas.{machines-still, machines-work, runs-still, runs-work}
use Rattle.bench_desk.proofs.PartLemmas.{stamped_of-snoc}

-- neither brings anything
arrived-work : (node : Node) (log : List Entry) (n k : ℕ) (item : MachineItem) (handled : Handled)
    → arrived node (log ++ work_entry k item handled ∷ []) n ≡ arrived node log n
arrived-work node log n k item handled =
    flat_map-append (λ e. if is_drop e.step then filter (is_for node n) (flat_map machine_item (option_to_list e.item)) else []) log
    (work_entry k item handled ∷ [])
    ∙ append-nil (arrived node log n)

arrived-lift : (node : Node) (log : List Entry) (n k : ℕ) (item : Item)
    → arrived node (log ++ lift_entry k item ∷ []) n ≡ arrived node log n
arrived-lift node log n k item =
    flat_map-append (λ e. if is_drop e.step then filter (is_for node n) (flat_map machine_item (option_to_list e.item)) else []) log
    (lift_entry k item ∷ [])
    ∙ append-nil (arrived node log n)

arrivals-work : (node : Node) (log : List Entry) (n k : ℕ) (item : MachineItem) (handled : Handled)
    → arrivals node (log ++ work_entry k item handled ∷ []) n ≡ arrivals node log n
arrivals-work node log n k item handled =
    flat_map-append (arrivals_in node n) log (work_entry k item handled ∷ []) ∙ append-nil (arrivals node log n)

arrivals-lift : (node : Node) (log : List Entry) (n k : ℕ) (item : Item)
    → arrivals node (log ++ lift_entry k item ∷ []) n ≡ arrivals node log n
arrivals-lift node log n k item =
    flat_map-append (arrivals_in node n) log (lift_entry k item ∷ []) ∙ append-nil (arrivals node log n)

-- its own work is one more
worked-work : (log : List Entry) (n : ℕ) (item : MachineItem) (handled : Handled)
    → worked (log ++ work_entry n item handled ∷ []) n ≡ worked log n ++ item ∷ []
worked-work log n item handled =
    flat_map-append (λ e. if is_work n e.step then flat_map machine_item (option_to_list e.item) else []) log
    (work_entry n item handled ∷ [])
    ∙ ap (λ (b : Bool). worked log n ++ ((if b then item ∷ [] else []) ++ [])) (eq-eqb n n refl)

worked-lift : (log : List Entry) (n k : ℕ) (item : Item) → worked (log ++ lift_entry k item ∷ []) n ≡ worked log n
worked-lift log n k item =
    flat_map-append (λ e. if is_work n e.step then flat_map machine_item (option_to_list e.item) else []) log
    (lift_entry k item ∷ [])
    ∙ append-nil (worked log n)

-- a number of items is below the count of those that are there, where there is one at that place
first_place : (m : ℕ) → nat_lt 0 (suc m) ≡ true
first_place m = grind (arith, nat_tests)

next_place : (n m : ℕ) → nat_lt n m ≡ true → nat_lt (suc n) (suc m) ≡ true
next_place n m is = grind (arith, nat_tests, is)

within : {X : Type 0} (xs : List X) (n : ℕ) (x : X) → slice_get xs n ≡ Some x → nat_lt n (length xs) ≡ true
within [] n x e = cc
within (y ∷ xs) zero x e = first_place (length xs)
within (y ∷ xs) (suc n) x e = next_place n (length xs) (within xs n x e)

abbrev inbox_of : List MachineItem → ℕ → InboxView
inbox_of items count = record { items = items; worked = count }

worked_one-next : (items : List MachineItem) (n : ℕ) (item : MachineItem) → slice_get items n ≡ Some item
    → worked_one (inbox_of items n) ≡ inbox_of items (n + 1)
worked_one-next items n item next = rw (within items n item next) refl

-- what is kept beside the shard is what the longer log says, where its oldest item was handled,
pub IsKept-work : (tables : Tables) (book : Book) (v : ShardView) (sources : List Source) (log : List Entry) (item : MachineItem) (handled : Handled)
    (posts : List Item) → IsKept tables v sources log → next_in v.inbox ≡ Some item → BecomesIn tables book v item handled
    → IsKept tables (after_work v item handled posts) sources (log ++ work_entry v.number item handled ∷ [])
IsKept-work tables book v sources log item handled posts k next becomes =
    let node = node_of tables.laws v.peers in
    let here : home node.shards item.key.name ≡ v.number = item-of node log v.number v.inbox item (ap (λ (b : InboxView). b.items) k.inbox) next in
    let machines : HasMachines node (log ++ work_entry v.number item handled ∷ []) (after_work v item handled posts) = machines-work node log v item handled posts here k.machines in
    let came : List MachineItem = arrived node log v.number in
    let at : slice_get came (length (worked log v.number)) ≡ Some item = sym (ap next_in k.inbox) ∙ next in
    record {
      inbox =
          ap worked_one k.inbox
          ∙ worked_one-next came (length (worked log v.number)) item at
          ∙ ap (inbox_of came) (sym (ap length (worked-work log v.number item handled) ∙ length-append (worked log v.number) (item ∷ [])))
          ∙ ap (λ xs. inbox_of xs (length (worked (log ++ work_entry v.number item handled ∷ []) v.number)))
          (sym (arrived-work node log v.number v.number item handled));
      machines = record { names = machines.names; states = machines.states };
      runs = runs-work tables book log v item handled here k.machines becomes k.runs;
      sources_are =
          k.sources_are
          ∙ ap (map (λ (p : Source × MachineItem). p.0)) (sym (arrivals-work node log v.number v.number item handled));
    }

-- and where an item was lifted
pub IsKept-lift : (tables : Tables) (v : ShardView) (sources : List Source) (log : List Entry) (item : Item) (outbox : OutboxView)
    → IsKept tables v sources log → IsKept tables (with_outbox v outbox) sources (log ++ lift_entry v.number item ∷ [])
IsKept-lift tables v sources log item outbox k =
    let node = node_of tables.laws v.peers in
    let e = lift_entry v.number item in
    let machines : HasMachines node (log ++ e ∷ []) v = machines-still node log e v (λ shard. refl) (λ key. moves-none key e refl) k.machines in
    record {
      machines = record { names = machines.names; states = machines.states };
      runs = runs-still tables v.peers log e (λ shard. refl) (λ key. moves-none key e refl) k.runs;
      inbox =
          k.inbox
          ∙ ap (inbox_of (arrived node log v.number)) (ap length (sym (worked-lift log v.number v.number item)))
          ∙ ap (λ xs. inbox_of xs (length (worked (log ++ lift_entry v.number item ∷ []) v.number)))
          (sym (arrived-lift node log v.number v.number item));
      sources_are =
          k.sources_are ∙ ap (map (λ (p : Source × MachineItem). p.0)) (sym (arrivals-lift node log v.number v.number item));
    }

-- and so it is where the shard is paused, or goes on
pub IsKept-paused : (tables : Tables) (v : ShardView) (sources : List Source) (log : List Entry) (paused : Bool) → IsKept tables v sources log
    → IsKept tables (with_paused v paused) sources log
IsKept-paused tables v sources log paused k = record {
  inbox = k.inbox;
  machines = record { names = k.machines.names; states = k.machines.states };
  runs = k.runs;
  sources_are = k.sources_are;
}

-- a waiting item is there
none≢some : {X : Type 0} (x : X) → Some x ≡ None → ⊥
none≢some x e = cc

pub none-left : {X : Type 0} (xs : List X) (n : ℕ) → slice_get xs n ≡ None → is_empty (drop n xs) ≡ true
none-left [] zero h = refl
none-left [] (suc n) h = refl
none-left (x ∷ xs) zero h = absurd (none≢some x h)
none-left (x ∷ xs) (suc n) h = none-left xs n h

-- what stands in the way of a part's work
abbrev reasons_of : Bool → Bool → Bool → Option WorkFault
reasons_of paused empty lacks = first_of ((paused, faults.Paused) ∷ (empty, faults.Nothing) ∷ (lacks, faults.Full) ∷ [])

waits : (paused empty lacks full : Bool) → or_full full (reasons_of paused empty lacks) ≡ None → empty ≡ false
waits true empty lacks full h = absurd (none≢some faults.Paused h)
waits false true lacks full h = absurd (none≢some faults.Nothing h)
waits false false lacks full h = refl

room : (paused empty lacks full : Bool) → or_full full (reasons_of paused empty lacks) ≡ None → full ≡ false
room true empty lacks full h = absurd (none≢some faults.Paused h)
room false true lacks full h = absurd (none≢some faults.Nothing h)
room false false true full h = absurd (none≢some faults.Full h)
room false false false true h = absurd (none≢some faults.Full h)
room false false false false h = refl

pub work_waits : (v : PartView) → work_refusal v ≡ None → is_empty (items_in v.shard.inbox) ≡ false
work_waits v h = waits v.shard.paused (is_empty (items_in v.shard.inbox)) (lacks_work_room v.shard) (is_log_full (entries_in v)) h

-- what is left of a part once work was done on it, or was not
abbrev IsTied : Tables → List Source → ShardView → List Entry → List ℕ → Type 0
IsTied tables sources v log stamps = IsKept tables v sources log × (length stamps ≡ length log)

pub one-more : {X Y : Type 0} (xs : List X) (ys : List Y) (x : X) (y : Y) → length xs ≡ length ys → length (xs ++ x ∷ []) ≡ length (ys ++ y ∷ [])
one-more xs ys x y same = length-append xs (x ∷ []) ∙ ap (λ n. n + 1) same ∙ sym (length-append ys (y ∷ []))

pub tied-done : (tables decided : Tables) (sources : List Source) (stamp : ℕ) (v w : ShardView) (p q : Paged) (log logged : List Entry) (stamps drawn : List ℕ)
    → decided ≡ tables → IsTied tables sources v log stamps → IsDone decided stamp v w p q log logged stamps drawn → IsTied tables sources w logged drawn
tied-done tables decided sources stamp v w p q log logged stamps drawn is t d =
    let item = d.work.item in
    let handled = d.work.handled in
    let posts = d.work.effects.posts.items in
    let becomes : BecomesIn tables p.book v item handled = subst (λ (tabs : Tables). BecomesIn tabs p.book v item handled) is d.decided.becomes in
    rw (d.written.shard_is, d.written.log_is, d.written.stamps_are) (
      IsKept-work tables p.book v sources log item handled posts t.0 d.decided.fits.item_is becomes,
      one-more stamps log stamp (work_entry v.number item handled) t.1,
    )

pub tied-undone : (tables : Tables) (sources : List Source) (v w : ShardView) (p q : Paged) (log logged : List Entry) (stamps drawn : List ℕ)
    → IsTied tables sources v log stamps → IsUnwritten v w p q log logged stamps drawn → IsTied tables sources w logged drawn
tied-undone tables sources v w p q log logged stamps drawn t u = rw (u.shard_is, u.log_is, u.stamps_are) t

pub tied-either : (tables decided : Tables) (sources : List Source) (stamp : ℕ) (v w : ShardView) (p q : Paged) (log logged : List Entry) (stamps drawn : List ℕ)
    (result : Result (Unit {0}) AllocError) → decided ≡ tables → IsTied tables sources v log stamps
    → OnOk result (IsDone decided stamp v w p q log logged stamps drawn) → OnErr result (IsUnwritten v w p q log logged stamps drawn)
    → IsTied tables sources w logged drawn
tied-either tables decided sources stamp v w p q log logged stamps drawn (Ok x) is t ok err =
    tied-done tables decided sources stamp v w p q log logged stamps drawn is t ok
tied-either tables decided sources stamp v w p q log logged stamps drawn (Err e) is t ok err =
    tied-undone tables sources v w p q log logged stamps drawn t err

-- the part with that entry
abbrev pub view_with : Tables → ShardView → List ℕ → List Entry → PartView
view_with tables v stamps log = record { tables = tables; shard = v; entries = stamped_of stamps log }

pub worked-done : (tables : Tables) (stamp : ℕ) (v w : ShardView) (p q : Paged) (log logged : List Entry) (stamps drawn : List ℕ)
    → length stamps ≡ length log → IsDone tables stamp v w p q log logged stamps drawn
    → IsWorked (view_with tables v stamps log) (view_with tables w drawn logged) p q stamp
worked-done tables stamp v w p q log logged stamps drawn same d = record {
  work = d.work;
  decided = d.decided;
  part_is =
      rw (d.written.shard_is, d.written.log_is, d.written.stamps_are)
      (ap (λ es. entered es) (stamped_of-snoc stamps log stamp (work_entry v.number d.work.item d.work.handled) same));
  page_is = d.written.page_is;
}
  where
    entered : List Stamped → PartView
    entered es = record {
      tables = tables;
      shard = after_work v d.work.item d.work.handled d.work.effects.posts.items;
      entries = es;
    }

pub worked-either : (tables decided : Tables) (stamp : ℕ) (v w : ShardView) (p q : Paged) (log logged : List Entry) (stamps drawn : List ℕ)
    (result : Result (Unit {0}) AllocError) → decided ≡ tables → length stamps ≡ length log
    → OnOk result (IsDone decided stamp v w p q log logged stamps drawn)
    → OnOk result (IsWorked (view_with tables v stamps log) (view_with tables w drawn logged) p q stamp)
worked-either tables decided stamp v w p q log logged stamps drawn (Ok x) is same ok =
    worked-done tables stamp v w p q log logged stamps drawn same
    (subst (λ t. IsDone t stamp v w p q log logged stamps drawn) is ok)
worked-either tables decided stamp v w p q log logged stamps drawn (Err e) is same ok = tt

pub unworked : (tables : Tables) (v w : ShardView) (p q : Paged) (log logged : List Entry) (stamps drawn : List ℕ)
    → IsUnwritten v w p q log logged stamps drawn → view_with tables w drawn logged ≡ view_with tables v stamps log
unworked tables v w p q log logged stamps drawn u = rw (u.shard_is, u.log_is, u.stamps_are) refl

pub unworked-either : (tables : Tables) (v w : ShardView) (p q : Paged) (log logged : List Entry) (stamps drawn : List ℕ)
    (result : Result (Unit {0}) AllocError) → OnErr result (IsUnwritten v w p q log logged stamps drawn)
    → OnErr result (view_with tables w drawn logged ≡ view_with tables v stamps log)
unworked-either tables v w p q log logged stamps drawn (Ok x) err = tt
unworked-either tables v w p q log logged stamps drawn (Err e) err = unworked tables v w p q log logged stamps drawn err

-- once an item was lifted
pub tied-lifted : (tables : Tables) (sources : List Source) (stamp : ℕ) (v w : ShardView) (log logged : List Entry) (stamps drawn : List ℕ)
    → IsTied tables sources v log stamps → IsLifted stamp v w log logged stamps drawn → IsTied tables sources w logged drawn
tied-lifted tables sources stamp v w log logged stamps drawn t l =
    rw (l.shard_is, l.log_is, l.stamps_are) (
      IsKept-lift tables v sources log l.item (taken_out v.outbox) t.0,
      one-more stamps log stamp (lift_entry v.number l.item) t.1,
    )

same-some : {X : Type 0} (a b : X) → Some a ≡ Some b → a ≡ b
same-some a b e = cc

pub with_lift-lifted : (tables : Tables) (stamp : ℕ) (v w : ShardView) (log logged : List Entry) (stamps drawn : List ℕ) (item : Item)
    → length stamps ≡ length log → IsLifted stamp v w log logged stamps drawn → next_out v.outbox ≡ Some item
    → view_with tables w drawn logged ≡ with_lift (view_with tables v stamps log) stamp item
with_lift-lifted tables stamp v w log logged stamps drawn item same l next =
    let one : item ≡ l.item = same-some item l.item (sym next ∙ l.item_is) in
    rw (l.shard_is, l.log_is, l.stamps_are, one)
    (ap (λ es. entered es) (stamped_of-snoc stamps log stamp (lift_entry v.number l.item) same))
  where
    entered : List Stamped → PartView
    entered es = record { tables = tables; shard = with_outbox v (taken_out v.outbox); entries = es }

-- nothing is missing where something waits
pub next_waits : (o : OutboxView) → is_empty (items_out o) ≡ false → next_out o ≡ None → ⊥
next_waits o waits none = false≢true (sym waits ∙ none-left o.posts o.lifted none)

pub task_waits : (v : PartView) → work_refusal v ≡ None → next_in v.shard.inbox ≡ None → ⊥
task_waits v could none = false≢true (sym (work_waits v could) ∙ none-left v.shard.inbox.items v.shard.inbox.worked none)
