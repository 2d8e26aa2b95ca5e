-- The entry of a shard's work is added as it is: where it was done the entry may follow, and where the shard's oldest item is another, or becomes
-- something else, it may not.
use Rattle.std.proofs.Common.{◌≡◌, ℕ, List, [], ◌∷◌, ◌++◌, Bool, Option, Some, None, refl, sym, ◌∙◌, ap, subst, fold, length}
use Rattle.std.specs.List.{slice_get}
use Rattle.std.specs.Prelude.{if◌then◌else◌, slice_set, OnOk, Result, Ok, Err}
use Rattle.std.proofs.lemmas.List.{append-nil}
use Rattle.acct_book.specs.Book.{Paged, after, with_book}
use Rattle.bench_item.specs.declared.entry.Entry.{Entry}
use Rattle.bench_item.specs.declared.entry.Handled.{Handled}
use Rattle.bench_item.specs.declared.item.Item.{Item}
use Rattle.bench_item.specs.declared.item.Item.TheVariants.{ToMachine}
use Rattle.bench_item.specs.declared.item.MachineItem.{MachineItem}
use Rattle.bench_move.specs.Tables.{Tables}
use Rattle.bench_queue.specs.Inbox.{next_in}
use Rattle.bench_shard.proofs.LegalLemmas.{becomes-logged}
use Rattle.bench_shard.specs.Stands.{tables_of}
use Rattle.bench_shard.specs.Tasks.{wanted}
use Rattle.bench_shard.specs.View.{ShardView}
use Rattle.bench_shard.specs.Works.{AreEffects, BecomesIn, Fits}
use Rattle.bench_shard.specs.declared.task.Task.{Task}
use Rattle.bench_shard.specs.declared.work.Effects.{Effects}
use Rattle.bench_spec.specs.Items.{IsFront, arrived, worked}
use Rattle.bench_spec.specs.Legal.{IsWorked, MayFollow}
use Rattle.bench_spec.specs.Settings.{Settings}
use Rattle.bench_spec.specs.Taken.{Replays}
use Rattle.bench_undo.specs.declared.undo.Undo.{Undo}
use Rattle.bench_views.specs.Stored.{IsTied, Stored}
use Rattle.bench_views.proofs.Handled.{work_entry}
use Rattle.bench_views.proofs.Order.{arrived-snoc, worked-snoc}
use Rattle.bench_core.specs.Replaying.{IsAnother, IsRedone, work_parts}
use Rattle.bench_core.specs.Working.{IsDone, IsWritten}
use Rattle.bench_core.proofs.DoneLemmas.{Works, done-follows, page-says, paused-kept, run_of, works-asked, works-at, works-page}
use Rattle.bench_core.proofs.ReplayLemmas.{front-last, number-itself}

-- an item that may be worked next is the oldest of its shard
pub next-worked : (settings : Settings) (log : List Entry) (s : Stored) (k : ℕ) (v : ShardView) (item : MachineItem) (handled : Handled) → IsTied settings log s
    → slice_get s.shards k ≡ Some v → MayFollow settings log (work_entry k item handled) → next_in v.inbox ≡ Some item
next-worked settings log s k v item handled tied at follows =
    ap next_in (tied.shards k v at).1.inbox
    ∙ subst (λ n. slice_get (arrived settings.node log n) (length (worked log n)) ≡ Some item) (sym (tied.shards k v at).0) last
  where
    e : Entry
    e = work_entry k item handled

    more : worked (log ++ e ∷ []) k ≡ worked log k ++ item ∷ []
    more = worked-snoc log e k ∙ ap (λ b. worked log k ++ (if b then item ∷ [] else [])) (number-itself k)

    same : arrived settings.node (log ++ e ∷ []) k ≡ arrived settings.node log k
    same = arrived-snoc settings.node log e k ∙ append-nil (arrived settings.node log k)

    last : slice_get (arrived settings.node log k) (length (worked log k)) ≡ Some item
    last =
        front-last (worked log k) (arrived settings.node log k) item
        (subst (IsFront (worked log k ++ item ∷ [])) same
        (subst (λ xs. IsFront xs (arrived settings.node (log ++ e ∷ []) k)) more (follows.order.shards k)))

-- an entry of work has an item for a machine, and what became of it
pub parts-worked : (settings : Settings) (log : List Entry) (i : Option Item) (h : Option Handled) → IsWorked settings log i h → work_parts i h ≡ None → ⊥
parts-worked settings log (Some (ToMachine item)) (Some handled) is none = cc
parts-worked settings log i h is none = absurd is

-- where the oldest item is another or becomes something else the entry may not follow
pub redone-other : (settings : Settings) (log : List Entry) (paused : List Bool) (s : Stored) (pages : List Paged) (undos : List Undo) (k p : ℕ) (v : ShardView) (page : Paged)
    (task : Task) (item : MachineItem) (handled : Handled) → Works settings log paused s pages undos k p v page task → IsAnother (tables_of settings) page.book v item handled
    → MayFollow settings log (work_entry k item handled) → ⊥
redone-other settings log paused s pages undos k p v page task item handled h other follows =
    let at = works-at settings log paused s pages undos k p v page task h in
    let next = next-worked settings log s k v item handled h.whole.tied at follows in
    let asked = works-asked settings log paused s pages undos k p v page task h item next in
    let there = works-page settings log paused s pages undos k p v page task h in
    let says = page-says settings log s pages p page (wanted settings.node.laws v item) h.whole.tied h.kept there asked in
    other next ((becomes-logged settings log v page.book item handled (h.whole.tied.shards k v at).1 next says).1 follows.parts)

-- where it was done the entry is added
pub redone-taken : {E : Type 0} (settings : Settings) (log logged : List Entry) (s : Stored) (pages : List Paged) (undos undone : List Undo) (k p : ℕ) (v w : ShardView)
    (page paged : Paged) (task : Task) (item : MachineItem) (handled : Handled) (r : Result (Unit {0}) E) → Works settings log [] s pages undos k p v page task
    → OnOk r (IsRedone (tables_of settings) k p item handled v w page paged log logged undos undone)
    → OnOk r (Replays (run_of settings log s.shards) (run_of settings logged (slice_set s.shards k w)) (work_entry k item handled))
redone-taken settings log logged s pages undos undone k p v w page paged task item handled (Err e) h done = tt
redone-taken settings log logged s pages undos undone k p v w page paged task item handled (Ok x) h redone =
    let done = redone.done in
    let at = works-at settings log [] s pages undos k p v page task h in
    let follows = done-follows settings log logged [] s pages k p v w page paged undos undone h.whole h.kept h.could at
    (works-page settings log [] s pages undos k p v page task h) (works-asked settings log [] s pages undos k p v page task h) done in
    subst (λ i. Replays (run_of settings log s.shards) (run_of settings logged (slice_set s.shards k w)) (work_entry k i handled)) redone.item_is
    (subst (λ b. Replays (run_of settings log s.shards) (run_of settings logged (slice_set s.shards k w)) (work_entry k done.work.item b)) redone.handled_is
    (record {
      follows = follows;
      grown = rw (done.written.log_is, paused-kept s.shards k v w at (ap (λ u. u.paused) done.written.shard_is)) refl;
    }))

-- done again is done
pub redone-done : {E : Type 0} (settings : Settings) (log logged : List Entry) (k p : ℕ) (v w : ShardView) (page paged : Paged) (undos undone : List Undo) (item : MachineItem)
    (handled : Handled) (r : Result (Unit {0}) E) → OnOk r (IsRedone (tables_of settings) k p item handled v w page paged log logged undos undone)
    → OnOk r (IsDone (tables_of settings) k p v w page paged log logged undos undone)
redone-done settings log logged k p v w page paged undos undone item handled (Ok x) redone = redone.done
redone-done settings log logged k p v w page paged undos undone item handled (Err e) redone = tt

-- an item that was found so, and written, was done again
pub redone-is : (tables : Tables) (shard page : ℕ) (item : MachineItem) (handled : Handled) (effects : Effects) (v w : ShardView) (p m q : Paged)
    (log logged : List Entry) (undos undone : List Undo) → Fits v item handled → BecomesIn tables p.book v item handled
    → AreEffects tables.laws v item handled effects → m ≡ with_book p p.book m.room
    → IsWritten shard page (record { item = item; handled = handled; effects = effects }) v w m q log logged undos undone
    → IsRedone tables shard page item handled v w p q log logged undos undone
redone-is tables shard page item handled effects v w p m q log logged undos undone fits becomes are held written = record {
  done = record {
    work = record { item = item; handled = handled; effects = effects };
    decided = record { fits = fits; becomes = becomes; effects = are };
    written = record {
      shard_is = written.shard_is;
      page_is = (written.page_is.0 ∙ ap (λ x. x.number) held, written.page_is.1 ∙ ap (λ x. x.pages) held, written.page_is.2 ∙ ap (λ x. fold after x.book effects.ops) held);
      log_is = written.log_is;
      change = written.change;
      back = written.back;
      undo_is = written.undo_is;
    };
  };
  item_is = refl;
  handled_is = refl;
}

-- the same where the item and what became of it were kept
pub redone-kept : (tables : Tables) (shard page : ℕ) (item kept : MachineItem) (handled became : Handled) (effects : Effects) (v w : ShardView) (p m q : Paged)
    (log logged : List Entry) (undos undone : List Undo) → kept ≡ item → became ≡ handled → Fits v item handled → BecomesIn tables p.book v item handled
    → AreEffects tables.laws v item handled effects → m ≡ with_book p p.book m.room
    → IsWritten shard page (record { item = kept; handled = became; effects = effects }) v w m q log logged undos undone
    → IsRedone tables shard page item handled v w p q log logged undos undone
redone-kept tables shard page item kept handled became effects v w p m q log logged undos undone same is fits becomes are held written =
    redone-is tables shard page item handled effects v w p m q log logged undos undone fits becomes are held
    (subst (λ h. IsWritten shard page (record { item = item; handled = h; effects = effects }) v w m q log logged undos undone) is
    (subst (λ i. IsWritten shard page (record { item = i; handled = became; effects = effects }) v w m q log logged undos undone) same written))
