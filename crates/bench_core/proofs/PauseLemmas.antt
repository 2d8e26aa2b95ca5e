-- A shard is paused or goes on: the world is as whole as before, since no step that is taken back tells which shards are paused.
use Rattle.std.proofs.Common.{◌≡◌, ◌<◌, ℕ, zero, suc, List, [], ◌∷◌, Bool, Some, true, false, refl, sym, ◌∙◌, ap, subst, length}
use Rattle.std.specs.List.{slice_get}
use Rattle.std.specs.Prelude.{◌==◌, get_or, if◌then◌else◌, map, slice_set}
use Rattle.std.proofs.lemmas.List.{map-set}
use Rattle.std.proofs.lemmas.Option.{slice_get_read}
use Rattle.bench_item.specs.declared.entry.Entry.{Entry}
use Rattle.bench_item.specs.declared.source.Source.{Source}
use Rattle.bench_item.specs.declared.source.Source.TheVariants.{Clock, Desk, Line, Shard}
use Rattle.bench_queue.specs.Inbox.{without_in}
use Rattle.bench_queue.specs.Outbox.{undropped_one, unlifted_one}
use Rattle.bench_shard.specs.Stands.{Stands}
use Rattle.bench_shard.specs.View.{ShardView, with_inbox, with_outbox, with_paused}
use Rattle.bench_shard.specs.Works.{taken_back}
use Rattle.bench_spec.specs.Settings.{Settings}
use Rattle.bench_undo.specs.declared.undo.Arrival.{Arrival}
use Rattle.bench_undo.specs.declared.undo.Arrival.TheVariants as arrivals
use Rattle.bench_undo.specs.declared.undo.Undo.{Undo}
use Rattle.bench_undo.specs.declared.undo.Undo.TheVariants.{Dropped, Fired, Lifted, Lines, Opened, Told, Worked}
use Rattle.bench_views.specs.Behind.{at_shard, changed_at}
use Rattle.bench_views.specs.Pages.{taken_back_by}
use Rattle.bench_views.specs.Stored.{IsShardAt, IsTied, Stored}
use Rattle.bench_views.proofs.Acting.{Acts, acts-changed, acts-none, changed_at-set, each-acts}
use Rattle.bench_carry.specs.Undone.{at_book, unarrived, undone, undropped, unlifted}
use Rattle.bench_core.specs.Whole.{CanGoBack, IsWhole, MayUndo}

-- the parts with one shard paused, or not
abbrev pub paused_at : ℕ → Bool → Stored → Stored
paused_at shard paused s = at_shard shard (λ v. with_paused v paused) s

-- two changes of a list, of which each leaves alone what the other changes
changed-twice : {X : Type 0} (i k : ℕ) (f g : X → X) (xs : List X) → ((x : X) → f (g x) ≡ g (f x))
    → changed_at i f (changed_at k g xs) ≡ changed_at k g (changed_at i f xs)
changed-twice i k f g [] same = refl
changed-twice zero zero f g (x ∷ xs) same = ap (λ y. y ∷ xs) (same x)
changed-twice zero (suc k) f g (x ∷ xs) same = refl
changed-twice (suc i) zero f g (x ∷ xs) same = refl
changed-twice (suc i) (suc k) f g (x ∷ xs) same = ap (λ ys. x ∷ ys) (changed-twice i k f g xs same)

-- a change of a shard that does not pause it, and then that one is paused
shard-paused : (i k : ℕ) (f : ShardView → ShardView) (paused : Bool) (s : Stored)
    → ((v : ShardView) → f (with_paused v paused) ≡ with_paused (f v) paused)
    → at_shard i f (paused_at k paused s) ≡ paused_at k paused (at_shard i f s)
shard-paused i k f paused s same = ap (λ vs. record s { shards = vs }) (changed-twice i k f (λ v. with_paused v paused) s.shards same)

-- what is taken back is the same, whichever shards are paused
unlifted-paused : (source : Source) (k : ℕ) (paused : Bool) (s : Stored)
    → unlifted source (paused_at k paused s) ≡ paused_at k paused (unlifted source s)
unlifted-paused (Line line) k paused s = refl
unlifted-paused (Shard shard) k paused s = shard-paused shard k (λ v. with_outbox v (unlifted_one v.outbox)) paused s (λ v. refl)
unlifted-paused (Desk desk) k paused s = refl
unlifted-paused Clock k paused s = refl

undropped-paused : (source : Source) (k : ℕ) (paused : Bool) (s : Stored)
    → undropped source (paused_at k paused s) ≡ paused_at k paused (undropped source s)
undropped-paused (Line line) k paused s = refl
undropped-paused (Shard shard) k paused s = shard-paused shard k (λ v. with_outbox v (undropped_one v.outbox)) paused s (λ v. refl)
undropped-paused (Desk desk) k paused s = refl
undropped-paused Clock k paused s = refl

unarrived-paused : (arrival : Arrival) (k : ℕ) (paused : Bool) (s : Stored)
    → unarrived arrival (paused_at k paused s) ≡ paused_at k paused (unarrived arrival s)
unarrived-paused (arrivals.Shard shard) k paused s = shard-paused shard k (λ v. with_inbox v (without_in v.inbox 1)) paused s (λ v. refl)
unarrived-paused (arrivals.Lines change) k paused s = refl
unarrived-paused arrivals.Opened k paused s = refl
unarrived-paused (arrivals.Timer machine old) k paused s = refl

undone-paused : (undo : Undo) (k : ℕ) (paused : Bool) (s : Stored)
    → undone undo (paused_at k paused s) ≡ paused_at k paused (undone undo s)
undone-paused Opened k paused s = refl
undone-paused (Lines change) k paused s = refl
undone-paused (Told desk) k paused s = refl
undone-paused (Fired machine old posted) k paused s = refl
undone-paused (Lifted source) k paused s = unlifted-paused source k paused s
undone-paused (Dropped source arrival) k paused s =
    ap (unarrived arrival) (undropped-paused source k paused s) ∙ unarrived-paused arrival k paused (undropped source s)
undone-paused (Worked shard change page booked) k paused s =
    shard-paused shard k (taken_back change) paused (at_book page (taken_back_by booked) s) (λ v. refl)

may-paused : (undo : Undo) (k : ℕ) (paused : Bool) (s : Stored) → MayUndo undo s → MayUndo undo (paused_at k paused s)
may-paused Opened k paused s may = tt
may-paused (Lines change) k paused s may = tt
may-paused (Told desk) k paused s may = tt
may-paused (Fired machine old posted) k paused s may = tt
may-paused (Lifted source) k paused s may = tt
may-paused (Dropped source arrival) k paused s may = tt
may-paused (Worked shard change page booked) k paused s may = may

-- the parts are what the log says, whichever shards are paused
stands-paused : (settings : Settings) (log : List Entry) (v : ShardView) (paused : Bool) → Stands settings log v
    → Stands settings log (with_paused v paused)
stands-paused settings log v paused is = record {
  here = is.here;
  peers = is.peers;
  names = is.names;
  states = is.states;
  inbox = is.inbox;
  outbox = is.outbox;
}

tied-paused : (settings : Settings) (log : List Entry) (k : ℕ) (paused : Bool) (s : Stored) → IsTied settings log s
    → IsTied settings log (paused_at k paused s)
tied-paused settings log k paused s tied = record {
  shard_count = acts.count ∙ tied.shard_count;
  shards =
      each-acts (IsShardAt settings log) (IsShardAt settings log) by s.shards (paused_at k paused s).shards acts
      (λ i v is. each i v (i == k) is) tied.shards;
  outbox_count = tied.outbox_count;
  outboxes = tied.outboxes;
  lines = tied.lines;
  lifted_of = tied.lifted_of;
  carried_count = tied.carried_count;
  carried_of = tied.carried_of;
  book_count = tied.book_count;
  books = tied.books;
  timers = tied.timers;
}
  where
    by : ℕ → ShardView → ShardView
    by i v = if i == k then with_paused v paused else v

    acts : Acts (λ i v. if i == k then with_paused v paused else v) s.shards (paused_at k paused s).shards
    acts = acts-changed (λ i v. v) s.shards s.shards k (λ v. with_paused v paused) (acts-none s.shards)

    each : (i : ℕ) (v : ShardView) (b : Bool) → IsShardAt settings log i v
        → IsShardAt settings log i (if b then with_paused v paused else v)
    each i v true is = (is.0, stands-paused settings log v paused is.1)
    each i v false is = is

-- the steps can be taken back, whichever shards are paused
back-paused : (settings : Settings) (k : ℕ) (paused : Bool) (undos : List Undo) (log : List Entry) (s : Stored)
    → CanGoBack settings undos log s → CanGoBack settings undos log (paused_at k paused s)
back-paused settings k paused undos log s (CanGoBack.AtStart start tied) =
    CanGoBack.AtStart (paused_at k paused start) (tied-paused settings [] k paused start tied)
back-paused settings k paused undos log s (CanGoBack.Behind others shorter old new undo e all whole back tied may is all_is whole_is) =
    CanGoBack.Behind others shorter (paused_at k paused old) (paused_at k paused new) undo e all whole
    (back-paused settings k paused others shorter old back) (tied-paused settings whole k paused new tied)
    (may-paused undo k paused new may)
    (undone-paused undo k paused new ∙ ap (paused_at k paused) is) all_is whole_is

-- the world is as whole as before
pub whole-paused : (settings : Settings) (log : List Entry) (undos : List Undo) (k : ℕ) (paused : Bool) (s : Stored) (old new : ShardView)
    → IsWhole settings log s undos → k < length s.shards → old ≡ get_or s.shards k old → new ≡ with_paused old paused
    → IsWhole settings log (record s { shards = slice_set s.shards k new }) undos
whole-paused settings log undos k paused s old new whole within read is =
    subst (λ vs. IsWhole settings log (record s { shards = vs }) undos) set_is (record {
      legal = whole.legal;
      tied = tied-paused settings log k paused s whole.tied;
      back = back-paused settings k paused undos log s whole.back;
    })
  where
    there : slice_get s.shards k ≡ Some old
    there = slice_get_read s.shards (length s.shards) k old refl within read

    set_is : changed_at k (λ v. with_paused v paused) s.shards ≡ slice_set s.shards k new
    set_is = changed_at-set k (λ v. with_paused v paused) s.shards old there ∙ ap (slice_set s.shards k) (sym is)

-- which shards are paused then
pub paused-set : (shards : List ShardView) (k : ℕ) (paused : Bool) (old new : ShardView) → new ≡ with_paused old paused
    → map (λ v. v.paused) (slice_set shards k new) ≡ slice_set (map (λ v. v.paused) shards) k paused
paused-set shards k paused old new is =
    map-set (λ (v : ShardView). v.paused) shards k new ∙ ap (slice_set (map (λ v. v.paused) shards) k) (ap (λ (v : ShardView). v.paused) is)
