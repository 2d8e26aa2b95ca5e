-- What lies in a hand can be dropped.
use Rattle.std.proofs.Common.{◌≡◌, ◌<◌, ◌≤◌, ℕ, zero, suc, List, [], ◌∷◌, take, Bool, true, false, Some, None, refl, sym, ◌∙◌, ap, subst, arith}
use Rattle.std.specs.Prelude.{nat_lt, slice_get}
use Rattle.std.specs.Option.{option_and_then, option_map_or}
use Rattle.std.proofs.lemmas.Bool.Decides.{nat_tests}
use Rattle.std.proofs.lemmas.Option.{none-some, option_and_then_some}
use Rattle.bench_item.specs.declared.item.Item.{Item}
use Rattle.bench_item.specs.declared.item.Item.TheVariants.{Arm, Dial, Disarm, ToLine, ToMachine, Undial}
use Rattle.bench_item.specs.declared.item.MachineItem.{MachineItem}
use Rattle.bench_item.specs.declared.source.Source.{Source}
use Rattle.bench_item.specs.declared.source.Source.TheVariants.{Clock, Desk, Line, Shard}
use Rattle.bench_line.specs.Line.{LineView}
use Rattle.bench_line.specs.Lines.{line_at}
use Rattle.bench_log.specs.Targets.{event_in}
use Rattle.bench_queue.specs.Outbox.{OutboxState, OutboxView, hand_out, has_hand}
use Rattle.bench_shard.specs.View.{ShardView}
use Rattle.bench_views.specs.Looks.{dropped_on, hand_of}
use Rattle.bench_views.specs.Stored.{Stored}
use Rattle.bench_carry.specs.Hands.{CanBeDropped, with_hands}
use Rattle.bench_carry.specs.Seen.{views_of}

-- an item for a machine is its event
pub event-is : (item : Item) (event : MachineItem) → event_in item ≡ Some event → item ≡ ToMachine event
event-is (ToMachine i) event is = cc
event-is (ToLine i) event is = absurd (none-some event is)
event-is (Dial peer generation) event is = absurd (none-some event is)
event-is (Undial peer generation) event is = absurd (none-some event is)
event-is (Arm machine generation ticks) event is = absurd (none-some event is)
event-is (Disarm machine) event is = absurd (none-some event is)

-- nothing stands behind a front of a list
front-lacks : {X : Type 0} (n : ℕ) (xs : List X) (k : ℕ) → n ≤ k → slice_get (take n xs) k ≡ None
front-lacks zero xs k past = refl
front-lacks (suc n) [] k past = refl
front-lacks (suc n) (x ∷ xs) zero past = absurd (omega arith)
front-lacks (suc n) (x ∷ xs) (suc k) past = front-lacks n xs k (omega arith)

-- what a source has in its hand was lifted and not dropped
held : {X : Type 0} (lifted dropped : ℕ) (xs : List X) (x : X) → slice_get (take lifted xs) dropped ≡ Some x → dropped < lifted
held lifted dropped xs x there = by (nat_lt dropped lifted) refl
  where
    by : (b : Bool) → nat_lt dropped lifted ≡ b → dropped < lifted
    by true is = grind (arith, nat_tests, is)
    by false is = absurd (none-some x (sym (front-lacks lifted xs dropped (grind (arith, nat_tests, is))) ∙ there))

out_has : (v : OutboxView) (item : Item) → hand_out v ≡ Some item → has_hand v ≡ true
out_has v item there = let below : v.dropped < v.lifted = held v.lifted v.dropped v.posts item there in grind (arith, nat_tests, below)

out_at : (outboxes : List OutboxState) (place : ℕ) (item : Item)
    → option_and_then hand_out (slice_get (views_of outboxes) place) ≡ Some item
    → (o : OutboxState) × (slice_get outboxes place ≡ Some o) × (has_hand o.view ≡ true)
out_at [] place item there = absurd (none-some item there)
out_at (o ∷ outboxes) zero item there = (o, refl, out_has o.view item there)
out_at (o ∷ outboxes) (suc place) item there = out_at outboxes place item there

-- A source with an item in its hand can drop it.
pub can_be_dropped : (source : Source) (s : Stored) (shards : List ShardView) (outboxes : List OutboxState) (lines : List LineView) (carried : List ℕ) (item : Item)
    → hand_of source (with_hands s shards outboxes lines carried) ≡ Some item → CanBeDropped source shards outboxes lines carried
can_be_dropped (Line line) s shards outboxes lines carried item there =
    option_and_then_some (λ count. option_and_then (λ (l : LineView). slice_get (take l.lifted l.outbox) count) (line_at lines line))
    (dropped_on carried line) item there
    (λ count is has. option_and_then_some (λ (l : LineView). slice_get (take l.lifted l.outbox) count) (line_at lines line) item has
    (λ l at in'. (
      count,
      is,
      subst (λ n. count < n) (sym (ap (λ o. option_map_or (λ (x : LineView). x.lifted) o 0) at))
          (held l.lifted count l.outbox item in'),
    )))
can_be_dropped (Shard shard) s shards outboxes lines carried item there =
    option_and_then_some (λ (v : ShardView). hand_out v.outbox) (slice_get shards shard) item there (λ v is has.
    (v, is, out_has v.outbox item has))
can_be_dropped (Desk desk) s shards outboxes lines carried item there = out_at outboxes (suc desk) item there
can_be_dropped Clock s shards outboxes lines carried item there = out_at outboxes 0 item there
