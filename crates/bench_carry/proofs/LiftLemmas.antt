-- An item is lifted: lists that are written at one place, and what is next there.
use Rattle.std.proofs.Common.{◌≡◌, ◌+◌, ℕ, suc, List, Bool, true, Some, sym, ◌∙◌, ap, arith}
use Rattle.std.specs.Prelude.{get_or, option_map, slice_get, slice_set}
use Rattle.std.specs.Option.{option_and_then}
use Rattle.std.proofs.lemmas.Option.{get_or_from_slice_get, slice_get-get_or, slice_get-map, slice_get_within}
use Rattle.bench_item.specs.declared.source.Source.{Source}
use Rattle.bench_item.specs.declared.source.Source.TheVariants.{Desk}
use Rattle.bench_line.specs.Line.{LineView}
use Rattle.bench_queue.specs.Outbox.{OutboxState, OutboxView, next_out}
use Rattle.bench_shard.specs.View.{ShardView}
use Rattle.bench_views.specs.Behind.{changed_at}
use Rattle.bench_views.specs.Looks.{next_of}
use Rattle.bench_views.specs.Stored.{Stored}
use Rattle.bench_views.proofs.Acting.{changed_at-set}
use Rattle.bench_carry.specs.Seen.{views_of, with_seen}
use Rattle.bench_carry.proofs.PartLemmas.{changed-back, views-set}

-- what is read at a place where something is
pub read_at : {X : Type 0} (xs : List X) (place : ℕ) (x d : X) → slice_get xs place ≡ Some x → slice_get xs place ≡ Some (get_or xs place d)
read_at xs place x d there = slice_get-get_or xs place d (slice_get_within xs place x there)

-- what is there passes a test
pub read_test : {X : Type 0} (xs : List X) (place : ℕ) (x d : X) (test : X → Bool) → slice_get xs place ≡ Some x → test x ≡ true → test (get_or xs place d) ≡ true
read_test xs place x d test there passes = ap test (get_or_from_slice_get xs place x d there) ∙ passes

-- an item that is written is changed
pub set-changed : {X : Type 0} (xs : List X) (place : ℕ) (old new : X) (f : X → X) → slice_get xs place ≡ Some old → new ≡ f old
    → slice_set xs place new ≡ changed_at place f xs
set-changed xs place old new f there is = ap (slice_set xs place) is ∙ sym (changed_at-set place f xs old there)

-- and is as before once that is taken back
pub set-back : {X : Type 0} (xs : List X) (place : ℕ) (old new : X) (f g : X → X) → slice_get xs place ≡ Some old → new ≡ f old → g new ≡ old
    → changed_at place g (slice_set xs place new) ≡ xs
set-back xs place old new f g there is back =
    ap (changed_at place g) (set-changed xs place old new f there is) ∙ changed-back place f g xs old there (ap g (sym is) ∙ back)

pub views-back : (outs : List OutboxState) (place : ℕ) (old new : OutboxState) (f g : OutboxView → OutboxView) → slice_get outs place ≡ Some old
    → new.view ≡ f old.view → g new.view ≡ old.view → changed_at place g (views_of (slice_set outs place new)) ≡ views_of outs
views-back outs place old new f g there is back =
    ap (changed_at place g) (views-set outs place old new f there is)
    ∙ changed-back place f g (views_of outs) old.view (slice_get-map (λ (o : OutboxState). o.view) outs place ∙ ap (option_map (λ (o : OutboxState). o.view)) there)
    (ap g (sym is) ∙ back)

-- the next item of a desk
pub next_of-desk : (s : Stored) (shards : List ShardView) (outs : List OutboxState) (lines : List LineView) (source : Source) (desk : ℕ)
    → source ≡ Desk desk → option_and_then next_out (slice_get (views_of outs) (desk + 1)) ≡ next_of source (with_seen s shards outs lines)
next_of-desk s shards outs lines source desk is =
    ap (λ n. option_and_then next_out (slice_get (views_of outs) n)) next ∙ sym (ap (λ x. next_of x (with_seen s shards outs lines)) is)
  where
    next : desk + 1 ≡ suc desk
    next = omega arith
