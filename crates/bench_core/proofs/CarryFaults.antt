-- Why an item is not carried: by what a world keeps as by its log.
use Rattle.std.proofs.Common.{◌≡◌, ◌+◌, ◌-◌, ◌<◌, ℕ, zero, suc, List, [], ◌∷◌, length, drop, Bool, true, false, Option, Some, None, refl, sym, ◌∙◌, ap, arith}
use Rattle.std.specs.Prelude.{◌&&◌, ◌||◌, if◌then◌else◌, is_some, not, nat_le, nat_lt, slice_get, sum}
use Rattle.std.specs.Option.{option_map_or}
use Rattle.std.proofs.Math.Nat.{mod-lt}
use Rattle.std.proofs.lemmas.Bool.{lt-ltb}
use Rattle.std.proofs.lemmas.Bool.Decides.{nat_tests}
use Rattle.std.proofs.lemmas.List.{length-drop, length-map}
use Rattle.bench_item.specs.Keys.{home}
use Rattle.bench_item.specs.declared.entry.Entry.{Entry}
use Rattle.bench_item.specs.declared.item.Item.{Item}
use Rattle.bench_item.specs.declared.item.Item.TheVariants.{Arm, Dial, Disarm, ToLine, ToMachine, Undial}
use Rattle.bench_item.specs.declared.limit.TheConstants.{MAX_LINES}
use Rattle.bench_item.specs.declared.source.Source.{Source}
use Rattle.bench_item.specs.declared.source.Source.TheVariants.{Clock, Desk, Line, Shard}
use Rattle.bench_item.specs.declared.step.Step.TheVariants.{Drop, Lift}
use Rattle.bench_item.specs.declared.step.StepFault.{StepFault}
use Rattle.bench_item.specs.declared.step.StepFault.TheVariants.{Full, Nothing, Unknown}
use Rattle.bench_queue.specs.Inbox.{items_in}
use Rattle.bench_queue.specs.Outbox.{OutboxState}
use Rattle.bench_shard.specs.View.{ShardView}
use Rattle.bench_spec.specs.Items.{InOrder, dropped, hand, inbox, lifted, outbox, posts}
use Rattle.bench_spec.specs.Refusal.{has_no_room, is_crowded, is_empty, is_log_full, is_source, refusal}
use Rattle.bench_spec.specs.Settings.{Settings}
use Rattle.bench_views.specs.Looks.{hand_of, next_of}
use Rattle.bench_views.specs.Stored.{IsTied, Stored, meaning_of}
use Rattle.bench_views.proofs.LineStands.{length_lines}
use Rattle.bench_views.proofs.Looks.{hand_of-log, next_of-log, shard_there}
use Rattle.bench_carry.specs.Hands.{lacks_room}
use Rattle.bench_carry.specs.Seen.{views_of}
use Rattle.bench_core.specs.Carrying.{has_source}
use Rattle.bench_core.specs.Faults.{first_of}

-- what stands at a place, by what is left from there on
pub some-drop : {X : Type 0} (n : ℕ) (xs : List X) → nat_lt 0 (length (drop n xs)) ≡ is_some (slice_get xs n)
some-drop zero [] = refl
some-drop zero (x ∷ xs) = lt-ltb 0 (length (x ∷ xs)) (omega arith)
some-drop (suc n) [] = refl
some-drop (suc n) (x ∷ xs) = some-drop n xs

pub some-behind : {X : Type 0} (n : ℕ) (xs : List X) → nat_lt 0 (length xs - n) ≡ is_some (slice_get xs n)
some-behind n xs = ap (nat_lt 0) (sym (length-drop n xs)) ∙ some-drop n xs

empty-drop : {X : Type 0} (n : ℕ) (xs : List X) → is_empty (drop n xs) ≡ not (is_some (slice_get xs n))
empty-drop zero [] = refl
empty-drop zero (x ∷ xs) = refl
empty-drop (suc n) [] = refl
empty-drop (suc n) (x ∷ xs) = empty-drop n xs

full-drop : {X : Type 0} (n : ℕ) (xs : List X) → not (is_empty (drop n xs)) ≡ is_some (slice_get xs n)
full-drop zero [] = refl
full-drop zero (x ∷ xs) = refl
full-drop (suc n) [] = refl
full-drop (suc n) (x ∷ xs) = full-drop n xs

-- a source is there
pub has_source-log : (settings : Settings) (log : List Entry) (s : Stored) (outs : List OutboxState) (source : Source) → IsTied settings log s
    → s.outboxes ≡ views_of outs → has_source source s.shards outs s.lines ≡ is_source settings log source
has_source-log settings log s outs (Line line) tied kept =
    ap (λ n. nat_lt 0 line && nat_le line n) (length_lines (meaning_of settings) s.lines log tied.lines)
has_source-log settings log s outs (Shard shard) tied kept = ap (nat_lt shard) tied.shard_count
has_source-log settings log s outs (Desk desk) tied kept =
    let count : length outs ≡ settings.desks + 1 = sym (length-map outs (λ (o : OutboxState). o.view)) ∙ ap length (sym kept) ∙ tied.outbox_count in
    grind (arith, nat_tests, count)
has_source-log settings log s outs Clock tied kept = refl

-- three reasons of which the first holds
abbrev three : Bool → Bool → Bool → Option StepFault
three unknown nothing full = first_of ((unknown, Unknown) ∷ (nothing, Nothing) ∷ (full, Full) ∷ [])

pub three-by : (a b f : Bool) (r idle late : Option StepFault) → late ≡ (if f then Some Full else None) → idle ≡ (if b then Some Nothing else late)
    → r ≡ (if a then Some Unknown else idle) → r ≡ three a b f
three-by true b f r idle late l i e = e
three-by false true f r idle late l i e = e ∙ i
three-by false false true r idle late l i e = e ∙ i ∙ l
three-by false false false r idle late l i e = e ∙ i ∙ l

-- two reasons of one fault
pub two-by : (a b : Bool) (fault : StepFault) (r rest end : Option StepFault) → rest ≡ (if b then Some fault else end) → r ≡ (if a then Some fault else rest)
    → r ≡ (if a || b then Some fault else end)
two-by true b fault r rest end e f = f
two-by false b fault r rest end e f = f ∙ e

-- no item is lifted
pub lift-log : (settings : Settings) (log : List Entry) (paused : List Bool) (s : Stored) (source : Source) (there waits in_hand full : Bool) → IsTied settings log s
    → InOrder settings log → there ≡ is_source settings log source → waits ≡ is_some (next_of source s) → in_hand ≡ is_some (hand_of source s)
    → full ≡ is_log_full log → three (not there) (not waits || in_hand) full ≡ refusal settings log paused (Lift source)
lift-log settings log paused s source there waits in_hand full tied order is_there is_waiting is_held is_full = by (is_source settings log source) refl
  where
    by : (b : Bool) → is_source settings log source ≡ b → three (not there) (not waits || in_hand) full ≡ refusal settings log paused (Lift source)
    by false away =
        ap (λ x. three (not x) (not waits || in_hand) full) (is_there ∙ away)
        ∙ ap (λ x. three (not x) (is_empty (outbox settings log source) || not (is_empty (hand log source))) (is_log_full log)) (sym away)
    by true here =
        let next = is_waiting ∙ ap is_some (next_of-log settings log s source tied here) in
        let held = is_held ∙ ap is_some (hand_of-log settings log s source tied order here) in
        ap (λ x. three (not x) (not waits || in_hand) full) is_there
        ∙ ap (λ x. three (not (is_source settings log source)) (x || in_hand) full) (ap not next ∙ sym (empty-drop (length (lifted log source)) (posts settings log source)))
        ∙ ap (λ x. three (not (is_source settings log source)) (is_empty (outbox settings log source) || x) full) (held ∙ sym (full-drop (length (dropped log source)) (lifted log source)))
        ∙ ap (three (not (is_source settings log source)) (is_empty (outbox settings log source) || not (is_empty (hand log source)))) is_full

-- there is no room where an item is for
pub lacks_room-log : (settings : Settings) (log : List Entry) (s : Stored) (item : Item) (rest : List Item) → IsTied settings log s → 0 < settings.node.shards
    → lacks_room s.shards s.lines item ≡ has_no_room settings log (item ∷ rest)
lacks_room-log settings log s (ToMachine i) rest tied some =
    let here = home settings.node.shards i.key.name in
    let is = shard_there settings log s here tied (lt-ltb here settings.node.shards (mod-lt (sum i.key.name) some)) in
    let at = tied.shards here is.v is.there in
    ap (λ n. option_map_or (λ (v : ShardView). is_crowded (items_in v.inbox)) (slice_get s.shards (home n i.key.name)) false) tied.shard_count
    ∙ ap (λ o. option_map_or (λ (v : ShardView). is_crowded (items_in v.inbox)) o false) is.there
    ∙ ap is_crowded (ap items_in at.1.inbox ∙ ap (inbox settings.node log) at.0)
lacks_room-log settings log s (ToLine item) rest tied some = refl
lacks_room-log settings log s (Dial peer generation) rest tied some = ap (nat_le MAX_LINES) (length_lines (meaning_of settings) s.lines log tied.lines)
lacks_room-log settings log s (Undial peer generation) rest tied some = refl
lacks_room-log settings log s (Arm machine generation ticks) rest tied some = refl
lacks_room-log settings log s (Disarm machine) rest tied some = refl

-- or where the first of those from a place on is for
room-drop : (settings : Settings) (log : List Entry) (s : Stored) (n : ℕ) (items : List Item) → IsTied settings log s → 0 < settings.node.shards
    → option_map_or (lacks_room s.shards s.lines) (slice_get items n) false ≡ has_no_room settings log (drop n items)
room-drop settings log s zero [] tied some = refl
room-drop settings log s zero (item ∷ items) tied some = lacks_room-log settings log s item items tied some
room-drop settings log s (suc n) [] tied some = refl
room-drop settings log s (suc n) (item ∷ items) tied some = room-drop settings log s n items tied some

-- or where the item in a hand is for
pub hand_room-log : (settings : Settings) (log : List Entry) (s : Stored) (source : Source) → IsTied settings log s → InOrder settings log → 0 < settings.node.shards
    → is_source settings log source ≡ true
    → option_map_or (lacks_room s.shards s.lines) (hand_of source s) false ≡ has_no_room settings log (hand log source)
hand_room-log settings log s source tied order some there =
    ap (λ o. option_map_or (lacks_room s.shards s.lines) o false) (hand_of-log settings log s source tied order there)
    ∙ room-drop settings log s (length (dropped log source)) (lifted log source) tied some

-- no item is dropped
pub drop-log : (settings : Settings) (log : List Entry) (paused : List Bool) (s : Stored) (source : Source) (there in_hand crowded full : Bool) → IsTied settings log s
    → InOrder settings log → 0 < settings.node.shards → there ≡ is_source settings log source → in_hand ≡ is_some (hand_of source s)
    → crowded ≡ option_map_or (lacks_room s.shards s.lines) (hand_of source s) false → full ≡ is_log_full log
    → three (not there) (not in_hand) (full || crowded) ≡ refusal settings log paused (Drop source)
drop-log settings log paused s source there in_hand crowded full tied order some is_there is_held is_jammed is_full = by (is_source settings log source) refl
  where
    by : (b : Bool) → is_source settings log source ≡ b → three (not there) (not in_hand) (full || crowded) ≡ refusal settings log paused (Drop source)
    by false away =
        ap (λ x. three (not x) (not in_hand) (full || crowded)) (is_there ∙ away)
        ∙ ap (λ x. three (not x) (is_empty (hand log source)) (is_log_full log || has_no_room settings log (hand log source))) (sym away)
    by true here =
        let held = is_held ∙ ap is_some (hand_of-log settings log s source tied order here) in
        ap (λ x. three (not x) (not in_hand) (full || crowded)) is_there
        ∙ ap (λ x. three (not (is_source settings log source)) x (full || crowded)) (ap not held ∙ sym (empty-drop (length (dropped log source)) (lifted log source)))
        ∙ ap (λ x. three (not (is_source settings log source)) (is_empty (hand log source)) (x || crowded)) is_full
        ∙ ap (λ x. three (not (is_source settings log source)) (is_empty (hand log source)) (is_log_full log || x)) (is_jammed ∙ hand_room-log settings log s source tied order some here)
