-- The item in a source's hand is dropped where it is for: the entry may follow, and the parts are what the log then says.
use Rattle.std.proofs.Common.{◌≡◌, ◌-◌, ◌<◌, ℕ, suc, List, [], ◌∷◌, ◌++◌, Bool, true, false, Option, Some, None, refl, sym, ◌∙◌, ap, subst, arith}
use Rattle.std.specs.Prelude.{◌==◌, ◌||◌, length, nat_lt, slice_get}
use Rattle.std.specs.Option.{option_map_or}
use Rattle.std.proofs.lemmas.Bool.Decides.{nat_tests}
use Rattle.bench_item.specs.Keys.{home}
use Rattle.bench_item.specs.declared.entry.Entry.{Entry}
use Rattle.bench_item.specs.declared.item.Item.{Item}
use Rattle.bench_item.specs.declared.item.Item.TheVariants.{Arm, Dial, Disarm, ToLine, ToMachine, Undial}
use Rattle.bench_item.specs.declared.source.Source.{Source}
use Rattle.bench_item.specs.declared.source.Source.TheVariants.{Clock, Desk, Line, Shard}
use Rattle.bench_item.specs.declared.step.Step.TheVariants.{Drop}
use Rattle.bench_line.specs.Line.{LineView}
use Rattle.bench_line.specs.Lines.{lifted_on, line_at}
use Rattle.bench_line.specs.Talk.{Meaning}
use Rattle.bench_queue.specs.Outbox.{OutboxState, OutboxView, has_hand}
use Rattle.bench_spec.specs.Items.{InOrder, dropped, hand, lifted}
use Rattle.bench_spec.specs.Legal.{MayFollow}
use Rattle.bench_spec.specs.Refusal.{has_no_room, is_log_full, is_source, reasons, refusal}
use Rattle.bench_spec.specs.Settings.{Settings}
use Rattle.bench_spec.specs.Taken.{Takes}
use Rattle.bench_spec.proofs.BookLemmas.{entry_of}
use Rattle.bench_undo.specs.declared.undo.Undo.{Undo}
use Rattle.bench_views.specs.Behind.{came_to, dropped_from}
use Rattle.bench_views.specs.Looks.{dropped_on, hand_of}
use Rattle.bench_views.specs.Shards.{outbox_at}
use Rattle.bench_views.specs.Stored.{IsTied, Stored, meaning_of}
use Rattle.bench_views.proofs.Dropping.{has_number, tied-drop_event}
use Rattle.bench_views.proofs.Drops.{tied-arm, tied-delivered, tied-dial, tied-disarm, tied-undialled}
use Rattle.bench_views.proofs.Lifting.{line_at-suc}
use Rattle.bench_views.proofs.LineViews.{no_reason}
use Rattle.bench_views.proofs.Looks.{desk_there, follows-drop, hand_of-log, line_there, may_drop, outbox_there, shard_there}
use Rattle.bench_carry.specs.Dropped.{DropsTo}
use Rattle.bench_carry.specs.Hands.{CanBeDropped, lacks_room}
use Rattle.bench_carry.specs.Seen.{views_of}
use Rattle.bench_carry.specs.Undone.{BooksNothing, undone}
use Rattle.bench_core.specs.Whole.{IsWhole}
use Rattle.bench_core.proofs.CarryFaults.{hand_room-log}
use Rattle.bench_core.proofs.CarryLemmas.{kept_at, may_undo-unbooked, pauses, pauses-changed, run-same, run_by}
use Rattle.bench_core.proofs.LegalLemmas.{legal_order}
use Rattle.bench_core.proofs.WholeLemmas.{not_some, whole-after}

-- the log with the entry of a drop
abbrev pub dropped_log : List Entry → Source → Item → List Entry
dropped_log log source item = log ++ entry_of (Drop source) (Some item) None ∷ []

-- Once an item is dropped where it is for, all is what the log says with that entry.
pub drops-tied : (settings : Settings) (log : List Entry) (source : Source) (item : Item) (s new : Stored) → IsTied settings log s → InOrder settings log
    → has_hand (outbox_at settings log source) ≡ true → is_source settings log source ≡ true → DropsTo (meaning_of settings) source item s new
    → IsTied settings (dropped_log log source item) new
drops-tied settings log source (ToMachine i) s new tied order has there drops =
    subst (IsTied settings (dropped_log log source (ToMachine i)))
    (sym (drops ∙ ap (λ n. came_to (home n i.key.name) i (dropped_from source s)) tied.shard_count))
    (tied-drop_event settings log source i s tied has (has_number settings log source there))
drops-tied settings log source (ToLine item) s new tied order has there drops =
    subst (IsTied settings (dropped_log log source (ToLine item))) (sym drops.2)
    (tied-delivered settings log source item s drops.0 tied has (has_number settings log source there) drops.1.stands drops.1.counts)
drops-tied settings log source (Dial peer generation) s new tied order has there drops =
    subst (IsTied settings (dropped_log log source (Dial peer generation))) (sym drops.2)
    (tied-dial settings log source peer generation s drops.0 tied order has there drops.1.stands drops.1.counts)
drops-tied settings log source (Undial peer generation) s new tied order has there drops =
    subst (IsTied settings (dropped_log log source (Undial peer generation))) (sym drops.2)
    (tied-undialled settings log source peer generation s drops.0 tied has (has_number settings log source there) drops.1.stands drops.1.counts)
drops-tied settings log source (Arm machine generation ticks) s new tied order has there drops =
    subst (IsTied settings (dropped_log log source (Arm machine generation ticks))) (sym drops.1)
    (tied-arm settings log source machine generation ticks drops.0 s tied has (has_number settings log source there))
drops-tied settings log source (Disarm machine) s new tied order has there drops =
    subst (IsTied settings (dropped_log log source (Disarm machine))) (sym drops)
    (tied-disarm settings log source machine s tied has (has_number settings log source there))

-- which shards are paused stays
pauses-dropped_from : (source : Source) (s : Stored) → pauses (dropped_from source s).shards ≡ pauses s.shards
pauses-dropped_from (Line line) s = refl
pauses-dropped_from (Shard shard) s = pauses-changed shard _ s.shards (λ v. refl)
pauses-dropped_from (Desk desk) s = refl
pauses-dropped_from Clock s = refl

pub pauses-dropped : (m : Meaning) (source : Source) (item : Item) (s new : Stored) → DropsTo m source item s new → pauses new.shards ≡ pauses s.shards
pauses-dropped m source (ToMachine i) s new drops =
    ap (λ (x : Stored). pauses x.shards) drops ∙ pauses-changed _ _ (dropped_from source s).shards (λ v. refl) ∙ pauses-dropped_from source s
pauses-dropped m source (ToLine item) s new drops = ap (λ (x : Stored). pauses x.shards) drops.2 ∙ pauses-dropped_from source s
pauses-dropped m source (Dial peer generation) s new drops = ap (λ (x : Stored). pauses x.shards) drops.2 ∙ pauses-dropped_from source s
pauses-dropped m source (Undial peer generation) s new drops = ap (λ (x : Stored). pauses x.shards) drops.2 ∙ pauses-dropped_from source s
pauses-dropped m source (Arm machine generation ticks) s new drops = ap (λ (x : Stored). pauses x.shards) drops.1 ∙ pauses-dropped_from source s
pauses-dropped m source (Disarm machine) s new drops = ap (λ (x : Stored). pauses x.shards) drops ∙ pauses-dropped_from source s

-- an item lies in the hand
pub drop-hand : (settings : Settings) (log : List Entry) (paused : List Bool) (s : Stored) (undos : List Undo) (source : Source) → IsWhole settings log s undos
    → refusal settings log paused (Drop source) ≡ None → hand_of source s ≡ None → ⊥
drop-hand settings log paused s undos source whole could none =
    let may = may_drop settings log paused source could in
    not_some may.item (sym may.held ∙ sym (hand_of-log settings log s source whole.tied (legal_order settings log whole.legal) may.there) ∙ none)

-- the outbox at a place has it
outbox_droppable : (s : Stored) (outs : List OutboxState) (place : ℕ) (v : OutboxView) → s.outboxes ≡ views_of outs → slice_get s.outboxes place ≡ Some v
    → has_hand v ≡ true → (o : OutboxState) × (slice_get outs place ≡ Some o) × (has_hand o.view ≡ true)
outbox_droppable s outs place v kept there has =
    let is = kept_at outs place v (ap (λ vs. slice_get vs place) (sym kept) ∙ there) in
    (is.o, is.there, ap has_hand is.view ∙ has)

dropped_on-suc : (carried : List ℕ) (n : ℕ) → dropped_on carried (suc n) ≡ slice_get carried n
dropped_on-suc carried n = rw some (ap (slice_get carried) less)
  where
    some : (suc n == 0) ≡ false
    some = grind (arith, nat_tests)

    less : suc n - 1 ≡ n
    less = omega arith

nat_from : (a b : ℕ) → nat_lt a b ≡ true → a < b
nat_from a b is = grind (arith, nat_tests, is)

-- so it can be dropped
pub can_be_dropped : (settings : Settings) (log : List Entry) (paused : List Bool) (s : Stored) (outs : List OutboxState) (undos : List Undo) (source : Source)
    → IsWhole settings log s undos → s.outboxes ≡ views_of outs → refusal settings log paused (Drop source) ≡ None
    → CanBeDropped source s.shards outs s.lines s.carried
can_be_dropped settings log paused s outs undos (Line line) whole kept could =
    let is = line_there settings log s line whole.tied (may_drop settings log paused (Line line) could).there in
    let has = nat_from (length (dropped log (Line line))) (length (lifted log (Line line))) (may_drop settings log paused (Line line) could).has in
    let up : lifted_on s.lines line ≡ length (lifted log (Line line)) =
    ap (λ (l : Option LineView). option_map_or (λ x. x.lifted) l 0) (ap (line_at s.lines) is.number ∙ line_at-suc s.lines is.place ∙ is.there) ∙ is.lifted_is in
    (is.count, ap (dropped_on s.carried) is.number ∙ dropped_on-suc s.carried is.place ∙ is.counted, omega (arith, has, up, is.dropped_is))
can_be_dropped settings log paused s outs undos (Shard shard) whole kept could =
    let may = may_drop settings log paused (Shard shard) could in
    let is = shard_there settings log s shard whole.tied may.there in
    (is.v, is.there, ap has_hand is.outbox ∙ may.has)
can_be_dropped settings log paused s outs undos (Desk desk) whole kept could =
    let may = may_drop settings log paused (Desk desk) could in
    let is = outbox_there settings log s (suc desk) whole.tied (desk_there settings log desk may.there) in
    outbox_droppable s outs (suc desk) is.v kept is.there (ap has_hand is.outbox ∙ may.has)
can_be_dropped settings log paused s outs undos Clock whole kept could =
    let may = may_drop settings log paused Clock could in
    let is = outbox_there settings log s 0 whole.tied (omega arith) in
    outbox_droppable s outs 0 is.v kept is.there (ap has_hand is.outbox ∙ may.has)

-- there is room where it is for
both_false : (a b : Bool) → (a || b) ≡ false → b ≡ false
both_false true b is = absurd cc
both_false false b is = is

pub drop-room : (settings : Settings) (log : List Entry) (paused : List Bool) (s : Stored) (undos : List Undo) (source : Source) (item : Item)
    → IsWhole settings log s undos → 0 < settings.node.shards → refusal settings log paused (Drop source) ≡ None → hand_of source s ≡ Some item
    → lacks_room s.shards s.lines item ≡ false
drop-room settings log paused s undos source item whole some could held =
    let may = may_drop settings log paused source could in
    let none = no_reason (reasons settings paused log (Drop source)) could in
    ap (λ o. option_map_or (lacks_room s.shards s.lines) o false) (sym held)
    ∙ hand_room-log settings log s source whole.tied (legal_order settings log whole.legal) some may.there
    ∙ both_false (is_log_full log) (has_no_room settings log (hand log source)) none.1.1.0

-- the entry may follow
pub drop-follows : (settings : Settings) (log : List Entry) (paused : List Bool) (s : Stored) (undos : List Undo) (source : Source) (item : Item)
    → IsWhole settings log s undos → refusal settings log paused (Drop source) ≡ None → hand_of source s ≡ Some item
    → MayFollow settings log (entry_of (Drop source) (Some item) None)
drop-follows settings log paused s undos source item whole could held =
    let order = legal_order settings log whole.legal in
    let may = may_drop settings log paused source could in
    follows-drop settings log paused s source item order whole.tied could (sym (hand_of-log settings log s source whole.tied order may.there) ∙ held)

-- so the world is whole behind it
pub drop-whole : (settings : Settings) (log : List Entry) (paused : List Bool) (s new : Stored) (undos : List Undo) (source : Source) (item : Item) (u : Undo)
    → IsWhole settings log s undos → refusal settings log paused (Drop source) ≡ None → hand_of source s ≡ Some item
    → DropsTo (meaning_of settings) source item s new → undone u new ≡ s → BooksNothing u
    → IsWhole settings (dropped_log log source item) new (undos ++ u ∷ [])
drop-whole settings log paused s new undos source item u whole could held drops back unbooked =
    let may = may_drop settings log paused source could in
    whole-after settings log s new undos (entry_of (Drop source) (Some item) None) u whole
    (drop-follows settings log paused s undos source item whole could held)
    (drops-tied settings log source item s new whole.tied (legal_order settings log whole.legal) may.has may.there drops) (may_undo-unbooked u new unbooked) back

pub drop-after : (settings others : Settings) (log after : List Entry) (paused : List Bool) (s new : Stored) (undos more : List Undo) (source : Source) (item : Item) (u : Undo)
    → IsWhole settings log s undos → refusal settings log paused (Drop source) ≡ None → hand_of source s ≡ Some item
    → DropsTo (meaning_of settings) source item s new → undone u new ≡ s → BooksNothing u → others ≡ settings → after ≡ dropped_log log source item
    → more ≡ undos ++ u ∷ [] → IsWhole others after new more
drop-after settings others log after paused s new undos more source item u whole could held drops back unbooked same is_after is_more =
    rw (same, is_after, is_more) (drop-whole settings log paused s new undos source item u whole could held drops back unbooked)

-- and the step was taken
pub drop-takes : (settings others : Settings) (log after : List Entry) (paused halted : List Bool) (s : Stored) (undos : List Undo) (source : Source) (item : Item)
    → IsWhole settings log s undos → refusal settings log paused (Drop source) ≡ None → hand_of source s ≡ Some item → others ≡ settings
    → after ≡ dropped_log log source item → halted ≡ paused → Takes (run_by settings log paused) (run_by others after halted) (Drop source)
drop-takes settings others log after paused halted s undos source item whole could held same is_after still = record {
  entry = entry_of (Drop source) (Some item) None;
  of_step = refl;
  could = could;
  follows = drop-follows settings log paused s undos source item whole could held;
  grown = run-same others settings after (dropped_log log source item) halted paused same is_after still;
}
