-- The item that is next at a source and the one in its hand are the log's; and what a lift or a drop that is not refused finds.
use Rattle.std.proofs.Common.{◌≡◌, ◌+◌, ◌-◌, ◌<◌, ◌≤◌, ℕ, zero, suc, List, [], ◌∷◌, length, length-append, drop, take, Bool, true, false, Some, None, refl, sym, ◌∙◌, ap, arith}
use Rattle.std.proofs.Math.Seq.{take-append_seam}
use Rattle.std.specs.Prelude.{◌==◌, ◌&&◌, ◌||◌, nat_le, nat_lt, not, slice_get}
use Rattle.std.specs.Option.{option_and_then}
use Rattle.std.proofs.lemmas.Bool.{false≢true}
use Rattle.std.proofs.lemmas.Bool.Decides.{nat_tests}
use Rattle.std.proofs.lemmas.Option.{slice_get_within}
use Rattle.bench_item.specs.declared.item.Item.{Item}
use Rattle.bench_item.specs.declared.entry.Entry.{Entry}
use Rattle.bench_item.specs.declared.source.Source.{Source}
use Rattle.bench_item.specs.declared.source.Source.TheVariants.{Clock, Desk, Line, Shard}
use Rattle.bench_item.specs.declared.step.Step.TheVariants.{Drop, Lift}
use Rattle.bench_line.specs.Line.{LineView}
use Rattle.bench_line.specs.Lines.{line_at}
use Rattle.bench_queue.specs.Outbox.{OutboxView, can_lift, hand_out, has_hand, next_out}
use Rattle.bench_shard.specs.View.{ShardView}
use Rattle.bench_spec.specs.Items.{InOrder, dropped, hand, lifted, outbox, posts}
use Rattle.bench_spec.specs.Lines.{openings}
use Rattle.bench_spec.specs.Refusal.{is_empty, is_source, reasons, refusal}
use Rattle.bench_spec.specs.Legal.{MayFollow}
use Rattle.bench_spec.specs.Settings.{Settings}
use Rattle.bench_spec.proofs.BookLemmas.{entry_of}
use Rattle.bench_spec.proofs.PauseLemmas.{refusal-unpaused}
use Rattle.bench_views.specs.Looks.{dropped_on, hand_of, next_of}
use Rattle.bench_views.specs.Shards.{outbox_at}
use Rattle.bench_views.specs.Stored.{IsTied, Stored, source_at}
use Rattle.bench_views.proofs.Dropping.{both_true}
use Rattle.bench_views.proofs.Lifting.{each_outbox_of, line_at-suc}
use Rattle.bench_views.proofs.LineStands.{length_lines}
use Rattle.bench_views.proofs.LineViews.{no_reason, posts-go_on}
use Rattle.bench_views.proofs.Order.{Handles, drop-carries, lift-carries, order-after}

-- an item that stands within a list
within : {X : Type 0} (xs : List X) (k : ℕ) → k < length xs → (x : X) × (slice_get xs k ≡ Some x)
within [] k less = absurd (omega (arith, less))
within (x ∷ xs) zero less = (x, refl)
within (x ∷ xs) (suc k) less = within xs k (omega (arith, less))

lt_from : (a b : ℕ) → nat_lt a b ≡ true → a < b
lt_from a b h = grind (arith, nat_tests, h)

le_from : (a b : ℕ) → nat_le a b ≡ true → a ≤ b
le_from a b h = grind (arith, nat_tests, h)

-- what was lifted is the front of what was put out
front_is : (settings : Settings) (log : List Entry) (source : Source) → InOrder settings log
    → take (length (lifted log source)) (posts settings log source) ≡ lifted log source
front_is settings log source order =
    let front = (order.sources source).lifted_front in
    ap (take (length (lifted log source))) (sym front.1) ∙ take-append_seam (lifted log source) front.0

-- a shard, an outbox and a line that are there
pub record IsShardThere (settings : Settings) (log : List Entry) (s : Stored) (shard : ℕ) : Type 0 where
  pub v : ShardView
  pub there : slice_get s.shards shard ≡ Some v
  pub outbox : v.outbox ≡ outbox_at settings log (Shard shard)

pub shard_there : (settings : Settings) (log : List Entry) (s : Stored) (shard : ℕ) → IsTied settings log s → is_source settings log (Shard shard) ≡ true
    → IsShardThere settings log s shard
shard_there settings log s shard tied is =
    let less : shard < length s.shards = omega (arith, lt_from shard settings.node.shards is, tied.shard_count) in
    let found = within s.shards shard less in
    let stands = tied.shards shard found.0 found.1 in
    record { v = found.0; there = found.1; outbox = stands.1.outbox ∙ ap (λ n. outbox_at settings log (Shard n)) stands.0 }

pub record IsOutboxThere (settings : Settings) (log : List Entry) (s : Stored) (place : ℕ) : Type 0 where
  pub v : OutboxView
  pub there : slice_get s.outboxes place ≡ Some v
  pub outbox : v ≡ outbox_at settings log (source_at place)

pub outbox_there : (settings : Settings) (log : List Entry) (s : Stored) (place : ℕ) → IsTied settings log s → place < settings.desks + 1
    → IsOutboxThere settings log s place
outbox_there settings log s place tied less =
    let found = within s.outboxes place (omega (arith, less, tied.outbox_count)) in
    record { v = found.0; there = found.1; outbox = tied.outboxes place found.0 found.1 }

pub desk_there : (settings : Settings) (log : List Entry) (desk : ℕ) → is_source settings log (Desk desk) ≡ true → suc desk < settings.desks + 1
desk_there settings log desk is = omega (arith, lt_from desk settings.desks is)

pub record IsLineThere (settings : Settings) (log : List Entry) (s : Stored) (line : ℕ) : Type 0 where
  pub place : ℕ
  pub number : line ≡ suc place
  pub l : LineView
  pub there : slice_get s.lines place ≡ Some l
  pub outbox : l.outbox ≡ posts settings log (Line line)
  pub lifted_is : l.lifted ≡ length (lifted log (Line line))
  pub count : ℕ
  pub counted : slice_get s.carried place ≡ Some count
  pub dropped_is : count ≡ length (dropped log (Line line))

pub line_there : (settings : Settings) (log : List Entry) (s : Stored) (line : ℕ) → IsTied settings log s → is_source settings log (Line line) ≡ true
    → IsLineThere settings log s line
line_there settings log s line tied is =
    let parts = both_true (nat_lt 0 line) (nat_le line (length (openings log))) is in
    let some = lt_from 0 line parts.0 in
    let most = le_from line (length (openings log)) parts.1 in
    let place = line - 1 in
    let number : line ≡ suc place = omega (arith, some) in
    let many = length_lines _ s.lines log tied.lines in
    let found = within s.lines place (omega (arith, many, most, some)) in
    let counted = within s.carried place (omega (arith, many, most, some, tied.carried_count)) in
    record {
      place = place;
      number = number;
      l = found.0;
      there = found.1;
      outbox = each_outbox_of settings log s.lines tied.lines place found.0 found.1 ∙ ap (λ n. posts settings log (Line n)) (sym number);
      lifted_is = tied.lifted_of place found.0 found.1 ∙ ap (λ n. length (lifted log (Line n))) (sym number);
      count = counted.0;
      counted = counted.1;
      dropped_is = tied.carried_of place counted.0 counted.1 ∙ ap (λ n. length (dropped log (Line n))) (sym number);
    }

-- the item that is next
next_at : (settings : Settings) (log : List Entry) (s : Stored) (place : ℕ) → IsTied settings log s → place < settings.desks + 1
    → option_and_then next_out (slice_get s.outboxes place) ≡ slice_get (posts settings log (source_at place)) (length (lifted log (source_at place)))
next_at settings log s place tied less =
    let is = outbox_there settings log s place tied less in
    ap (option_and_then next_out) is.there ∙ ap next_out is.outbox

pub next_of-log : (settings : Settings) (log : List Entry) (s : Stored) (source : Source) → IsTied settings log s → is_source settings log source ≡ true
    → next_of source s ≡ slice_get (posts settings log source) (length (lifted log source))
next_of-log settings log s (Line line) tied there =
    let is = line_there settings log s line tied there in
    ap (option_and_then (λ (l : LineView). slice_get l.outbox l.lifted)) (ap (line_at s.lines) is.number ∙ line_at-suc s.lines is.place ∙ is.there)
    ∙ ap (λ items. slice_get items is.l.lifted) is.outbox ∙ ap (slice_get (posts settings log (Line line))) is.lifted_is
next_of-log settings log s (Shard shard) tied there =
    let is = shard_there settings log s shard tied there in
    ap (option_and_then (λ (v : ShardView). next_out v.outbox)) is.there ∙ ap next_out is.outbox
next_of-log settings log s (Desk desk) tied there = next_at settings log s (suc desk) tied (desk_there settings log desk there)
next_of-log settings log s Clock tied there = next_at settings log s 0 tied (omega arith)

-- and the one in the hand
hand_at : (settings : Settings) (log : List Entry) (s : Stored) (place : ℕ) → IsTied settings log s → InOrder settings log → place < settings.desks + 1
    → option_and_then hand_out (slice_get s.outboxes place) ≡ slice_get (lifted log (source_at place)) (length (dropped log (source_at place)))
hand_at settings log s place tied order less =
    let is = outbox_there settings log s place tied less in
    ap (option_and_then hand_out) is.there ∙ ap hand_out is.outbox
    ∙ ap (λ items. slice_get items (length (dropped log (source_at place)))) (front_is settings log (source_at place) order)

dropped_on-suc : (carried : List ℕ) (n : ℕ) → dropped_on carried (suc n) ≡ slice_get carried n
dropped_on-suc carried n = rw some (ap (slice_get carried) less)
  where
    some : (suc n == 0) ≡ false
    some = grind (arith, nat_tests)

    less : suc n - 1 ≡ n
    less = omega arith

pub hand_of-log : (settings : Settings) (log : List Entry) (s : Stored) (source : Source) → IsTied settings log s → InOrder settings log
    → is_source settings log source ≡ true → hand_of source s ≡ slice_get (lifted log source) (length (dropped log source))
hand_of-log settings log s (Line line) tied order there =
    let is = line_there settings log s line tied there in
    ap (option_and_then (λ (count : ℕ). option_and_then (λ (l : LineView). slice_get (take l.lifted l.outbox) count) (line_at s.lines line)))
    (ap (dropped_on s.carried) is.number ∙ dropped_on-suc s.carried is.place ∙ is.counted)
    ∙ ap (option_and_then (λ (l : LineView). slice_get (take l.lifted l.outbox) is.count)) (ap (line_at s.lines) is.number ∙ line_at-suc s.lines is.place ∙ is.there)
    ∙ ap (λ items. slice_get (take is.l.lifted items) is.count) is.outbox
    ∙ ap (λ n. slice_get (take n (posts settings log (Line line))) is.count) is.lifted_is
    ∙ ap (λ items. slice_get items is.count) (front_is settings log (Line line) order) ∙ ap (slice_get (lifted log (Line line))) is.dropped_is
hand_of-log settings log s (Shard shard) tied order there =
    let is = shard_there settings log s shard tied there in
    ap (option_and_then (λ (v : ShardView). hand_out v.outbox)) is.there ∙ ap hand_out is.outbox
    ∙ ap (λ items. slice_get items (length (dropped log (Shard shard)))) (front_is settings log (Shard shard) order)
hand_of-log settings log s (Desk desk) tied order there = hand_at settings log s (suc desk) tied order (desk_there settings log desk there)
hand_of-log settings log s Clock tied order there = hand_at settings log s 0 tied order (omega arith)

-- what stands behind so many items
not_empty : {X : Type 0} (n : ℕ) (xs : List X) → is_empty (drop n xs) ≡ false → (x : X) × (slice_get xs n ≡ Some x)
not_empty zero [] h = absurd (false≢true (sym h))
not_empty zero (x ∷ xs) h = (x, refl)
not_empty (suc n) [] h = absurd (false≢true (sym h))
not_empty (suc n) (x ∷ xs) h = not_empty n xs h

none_behind : {X : Type 0} (n : ℕ) (xs : List X) → is_empty (drop n xs) ≡ true → length xs ≤ n
none_behind zero [] h = omega arith
none_behind zero (x ∷ xs) h = absurd (false≢true h)
none_behind (suc n) [] h = omega arith
none_behind (suc n) (x ∷ xs) h = omega (arith, none_behind n xs h)

not_false : (b : Bool) → not b ≡ false → b ≡ true
not_false true h = refl
not_false false h = absurd (false≢true (sym h))

neither : (a b : Bool) → (a || b) ≡ false → (a ≡ false) × (b ≡ false)
neither true b h = absurd (false≢true (sym h))
neither false b h = (refl, h)

lt_test : (a b : ℕ) → a < b → nat_lt a b ≡ true
lt_test a b h = grind (arith, nat_tests, h)

eq_test : (a b : ℕ) → a ≡ b → (a == b) ≡ true
eq_test a b h = grind (arith, nat_tests, h)

both : (a b : Bool) → a ≡ true → b ≡ true → (a && b) ≡ true
both a b h k = rw (h, k) refl

-- A lift that is not refused: the source is there, an item waits, and the hand is empty.
pub record MayLift (settings : Settings) (log : List Entry) (source : Source) : Type 0 where
  pub there : is_source settings log source ≡ true
  pub item : Item
  pub next : slice_get (posts settings log source) (length (lifted log source)) ≡ Some item
  pub free : length (lifted log source) ≡ length (dropped log source)
  pub can : can_lift (outbox_at settings log source) ≡ true

pub may_lift : (settings : Settings) (log : List Entry) (paused : List Bool) (source : Source) → InOrder settings log
    → refusal settings log paused (Lift source) ≡ None → MayLift settings log source
may_lift settings log paused source order could =
    let none = no_reason (reasons settings paused log (Lift source)) could in
    let waits = neither (is_empty (outbox settings log source)) (not (is_empty (hand log source))) none.1.0 in
    let found = not_empty (length (lifted log source)) (posts settings log source) waits.0 in
    let most = none_behind (length (dropped log source)) (lifted log source) (not_false (is_empty (hand log source)) waits.1) in
    let front = (order.sources source).dropped_front in
    let free : length (lifted log source) ≡ length (dropped log source) =
    omega (arith, most, ap length front.1, length-append (dropped log source) front.0) in
    record {
      there = not_false (is_source settings log source) none.0;
      item = found.0;
      next = found.1;
      free = free;
      can =
          both (nat_lt (length (lifted log source)) (length (posts settings log source))) (length (dropped log source) == length (lifted log source))
          (lt_test (length (lifted log source)) (length (posts settings log source)) (slice_get_within (posts settings log source) (length (lifted log source)) found.0 found.1))
          (eq_test (length (dropped log source)) (length (lifted log source)) (sym free));
    }

-- A drop that is not refused: the source is there, and an item lies in its hand.
pub record MayDrop (settings : Settings) (log : List Entry) (source : Source) : Type 0 where
  pub there : is_source settings log source ≡ true
  pub item : Item
  pub held : slice_get (lifted log source) (length (dropped log source)) ≡ Some item
  pub has : has_hand (outbox_at settings log source) ≡ true

pub may_drop : (settings : Settings) (log : List Entry) (paused : List Bool) (source : Source)
    → refusal settings log paused (Drop source) ≡ None → MayDrop settings log source
may_drop settings log paused source could =
    let none = no_reason (reasons settings paused log (Drop source)) could in
    let found = not_empty (length (dropped log source)) (lifted log source) none.1.0 in
    record {
      there = not_false (is_source settings log source) none.0;
      item = found.0;
      held = found.1;
      has =
          lt_test (length (dropped log source)) (length (lifted log source))
          (slice_get_within (lifted log source) (length (dropped log source)) found.0 found.1);
    }

-- So the entries of both may follow.
pub follows-lift : (settings : Settings) (log : List Entry) (paused : List Bool) (s : Stored) (source : Source) (item : Item) → InOrder settings log
    → IsTied settings log s → refusal settings log paused (Lift source) ≡ None
    → slice_get (posts settings log source) (length (lifted log source)) ≡ Some item
    → MayFollow settings log (entry_of (Lift source) (Some item) None)
follows-lift settings log paused s source item order tied could next = record {
  could = refusal-unpaused settings log paused (Lift source) could;
  parts = (refl, refl);
  order =
      order-after settings log (entry_of (Lift source) (Some item) None) order
      (posts-go_on settings s.lines log paused (entry_of (Lift source) (Some item) None) tied.lines could)
      (lift-carries settings log source item next (may_lift settings log paused source order could).free) (λ shard. Handles.Idles refl);
}

pub follows-drop : (settings : Settings) (log : List Entry) (paused : List Bool) (s : Stored) (source : Source) (item : Item) → InOrder settings log
    → IsTied settings log s → refusal settings log paused (Drop source) ≡ None
    → slice_get (lifted log source) (length (dropped log source)) ≡ Some item
    → MayFollow settings log (entry_of (Drop source) (Some item) None)
follows-drop settings log paused s source item order tied could held = record {
  could = refusal-unpaused settings log paused (Drop source) could;
  parts = (refl, refl);
  order =
      order-after settings log (entry_of (Drop source) (Some item) None) order
      (posts-go_on settings s.lines log paused (entry_of (Drop source) (Some item) None) tied.lines could)
      (drop-carries settings log source item held) (λ shard. Handles.Idles refl);
}
