-- A shard handles its oldest item: the entry may follow, the parts are what the log then says, and are taken back.
use Rattle.std.proofs.Common.{◌≡◌, ℕ, List, [], ◌∷◌, ◌++◌, Bool, Some, None, refl, sym, ◌∙◌, ap, subst, arith, length, suc, zero}
use Rattle.std.specs.List.{slice_get}
use Rattle.std.specs.Prelude.{slice_set}
use Rattle.acct_book.specs.Book.{Book}
use Rattle.bench_item.specs.declared.entry.Entry.{Entry}
use Rattle.bench_item.specs.declared.entry.Handled.{Handled}
use Rattle.bench_item.specs.declared.item.Item.{Item}
use Rattle.bench_item.specs.declared.item.MachineItem.{MachineItem}
use Rattle.bench_item.specs.declared.step.Step.TheVariants.{Work}
use Rattle.bench_queue.specs.Inbox.{next_in}
use Rattle.bench_shard.specs.View.{ShardView}
use Rattle.bench_shard.specs.Works.{after_work, ops_in, taken_back as shard_taken_back}
use Rattle.bench_shard.specs.declared.work.ShardRecord.{ShardRecord}
use Rattle.bench_spec.specs.Items.{InOrder, arrived, handled_posts, worked}
use Rattle.bench_spec.specs.Legal.{BecomesOf, MayFollow}
use Rattle.bench_spec.specs.Refusal.{refusal}
use Rattle.bench_spec.specs.Settings.{Settings}
use Rattle.bench_spec.proofs.PauseLemmas.{refusal-unpaused}
use Rattle.bench_undo.specs.declared.undo.Undo.{Undo}
use Rattle.bench_undo.specs.declared.undo.Undo.TheVariants as undo
use Rattle.bench_views.specs.Behind.{changed_at}
use Rattle.bench_views.specs.Pages.{taken_back_by}
use Rattle.bench_views.specs.Stored.{IsTied, Stored}
use Rattle.bench_views.specs.Worked.{IsAskedBy, booked_on, worked_by}
use Rattle.bench_views.proofs.Handled.{work_entry}
use Rattle.bench_views.proofs.LineViews.{posts-go_on}
use Rattle.bench_views.proofs.Order.{Carries, order-after, work-handles}
use Rattle.bench_views.proofs.PageSteps.{length-fold_after, taken_back_by-fold}
use Rattle.bench_views.proofs.TiedWork.{tied-worked}
use Rattle.bench_core.specs.Whole.{IsWhole, MayUndo}
use Rattle.bench_carry.specs.Undone.{undone}
use Rattle.bench_core.proofs.LegalLemmas.{legal_order}
use Rattle.bench_core.proofs.WholeLemmas.{whole-after}

-- the oldest item of a shard, by the log
next-arrived : (settings : Settings) (log : List Entry) (s : Stored) (k : ℕ) (v : ShardView) (item : MachineItem) → IsTied settings log s → slice_get s.shards k ≡ Some v → next_in v.inbox ≡ Some item → slice_get (arrived settings.node log k) (length (worked log k)) ≡ Some item
next-arrived settings log s k v item tied at next =
    subst (λ n. slice_get (arrived settings.node log n) (length (worked log n)) ≡ Some item) (tied.shards k v at).0
    (sym (ap next_in (tied.shards k v at).1.inbox) ∙ next)

-- the entry may follow
pub work-follows : (settings : Settings) (log : List Entry) (paused : List Bool) (s : Stored) (k : ℕ) (v : ShardView) (item : MachineItem) (handled : Handled) → InOrder settings log → IsTied settings log s → refusal settings log paused (Work k) ≡ None → slice_get s.shards k ≡ Some v → next_in v.inbox ≡ Some item → BecomesOf settings log item handled → MayFollow settings log (work_entry k item handled)
work-follows settings log paused s k v item handled order tied could at next becomes = record {
  could = refusal-unpaused settings log paused (Work k) could;
  parts = becomes;
  order =
      order-after settings log (work_entry k item handled) order
      (posts-go_on settings s.lines log paused (work_entry k item handled) tied.lines could)
      (λ source. Carries.Rests refl refl) (work-handles settings.node log k item (Some handled) (next-arrived settings log s k v item tied at next));
}

-- an item that was written is changed back
some-same : {X : Type 0} (a b : X) → Some a ≡ Some b → a ≡ b
some-same a b e = cc

set-back : {X : Type 0} (place : ℕ) (g : X → X) (xs : List X) (x new : X) → slice_get xs place ≡ Some x → g new ≡ x → changed_at place g (slice_set xs place new) ≡ xs
set-back place g [] x new there back = refl
set-back zero g (y ∷ xs) x new there back = ap (λ z. z ∷ xs) (back ∙ sym (some-same y x there))
set-back (suc place) g (y ∷ xs) x new there back = ap (λ ys. y ∷ ys) (set-back place g xs x new there back)

-- what stands where an item was written
set-at : {X : Type 0} (place : ℕ) (xs : List X) (new x : X) → slice_get (slice_set xs place new) place ≡ Some x → new ≡ x
set-at place [] new x is = cc
set-at zero (y ∷ xs) new x is = some-same new x is
set-at (suc place) (y ∷ xs) new x is = set-at place xs new x is

-- the record of work takes it back
work-undone : (settings : Settings) (s : Stored) (k p : ℕ) (v : ShardView) (book : Book) (item : MachineItem) (handled : Handled) (own : List Item) (change : ShardRecord) → slice_get s.shards k ≡ Some v → slice_get s.books p ≡ Some book → shard_taken_back change (after_work v item handled own) ≡ v → undone (undo.Worked k change p (length (ops_in settings.node.laws item handled))) (worked_by settings k v p book item handled own s) ≡ s
work-undone settings s k p v book item handled own change at booked back =
    rw (
      set-back k (shard_taken_back change) s.shards v (after_work v item handled own) at back,
      set-back p (taken_back_by (length (ops_in settings.node.laws item handled))) s.books book (booked_on settings item handled book) booked (taken_back_by-fold book (ops_in settings.node.laws item handled)),
    )
    refl

work-may_undo : (settings : Settings) (s : Stored) (k p : ℕ) (v : ShardView) (book : Book) (item : MachineItem) (handled : Handled) (own : List Item) (change : ShardRecord) → MayUndo (undo.Worked k change p (length (ops_in settings.node.laws item handled))) (worked_by settings k v p book item handled own s)
work-may_undo settings s k p v book item handled own change b is =
    let same = set-at p s.books (booked_on settings item handled book) b is in
    let more = length-fold_after book (ops_in settings.node.laws item handled) in
    rw (← same) (omega arith)

-- so the world is whole behind it
pub work-whole : (settings : Settings) (log : List Entry) (paused : List Bool) (s : Stored) (undos : List Undo) (k p : ℕ) (v : ShardView) (book : Book) (item : MachineItem) (handled : Handled) (own : List Item) (change : ShardRecord) → IsWhole settings log s undos → refusal settings log paused (Work k) ≡ None → slice_get s.shards k ≡ Some v → slice_get s.books p ≡ Some book → next_in v.inbox ≡ Some item → BecomesOf settings log item handled → IsAskedBy settings p item handled → own ≡ handled_posts settings.node handled item → shard_taken_back change (after_work v item handled own) ≡ v → IsWhole settings (log ++ work_entry k item handled ∷ []) (worked_by settings k v p book item handled own s) (undos ++ undo.Worked k change p (length (ops_in settings.node.laws item handled)) ∷ [])
work-whole settings log paused s undos k p v book item handled own change whole could at booked next becomes asked posts_are back =
    whole-after settings log s (worked_by settings k v p book item handled own s) undos (work_entry k item handled) (undo.Worked k change p (length (ops_in settings.node.laws item handled))) whole
    (work-follows settings log paused s k v item handled (legal_order settings log whole.legal) whole.tied could at next becomes)
    (tied-worked settings log s k p v book item handled own at booked next becomes asked posts_are whole.tied)
    (work-may_undo settings s k p v book item handled own change)
    (work-undone settings s k p v book item handled own change at booked back)
