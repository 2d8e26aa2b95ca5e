-- What waits at a source is what the log says.
use Rattle.std.proofs.Common.{◌≡◌, ◌+◌, ◌-◌, ◌<◌, ◌≤◌, ℕ, zero, suc, List, [], ◌∷◌, ◌++◌, length, drop, Bool, true, false, Option, Some, None, refl, sym, ◌∙◌, ap, arith, append_assoc}
use Rattle.std.specs.Prelude.{◌==◌, ◌&&◌, if◌then◌else◌, nat_le, nat_lt, slice_get}
use Rattle.std.specs.Option.{option_and_then, option_map_or}
use Rattle.std.proofs.lemmas.Bool.Decides.{nat_tests}
use Rattle.std.proofs.lemmas.List.{append-nil}
use Rattle.std.proofs.lemmas.Option.{slice_get_past}
use Rattle.bench_item.specs.declared.entry.Entry.{Entry}
use Rattle.bench_item.specs.declared.item.Item.{Item}
use Rattle.bench_item.specs.declared.source.Source.{Source}
use Rattle.bench_item.specs.declared.source.Source.TheVariants.{Clock, Desk, Line, Shard}
use Rattle.bench_line.specs.Line.{LineView}
use Rattle.bench_line.specs.Lines.{item_on, lifted_on, line_at}
use Rattle.bench_queue.specs.Outbox.{items_out}
use Rattle.bench_spec.specs.Items.{outbox, posts}
use Rattle.bench_spec.specs.Refusal.{is_source}
use Rattle.bench_spec.specs.Settings.{Settings}
use Rattle.bench_views.specs.Stored.{IsTied, Stored, meaning_of, source_at}
use Rattle.bench_views.proofs.Each.{some-same}
use Rattle.bench_views.proofs.Lifting.{line_at-suc}
use Rattle.bench_views.proofs.LineStands.{length_lines}
use Rattle.bench_views.proofs.Looks.{desk_there, line_there, outbox_there, shard_there}
use Rattle.bench_core.specs.Waiting.{put_out_on, waiting_at, waiting_in, waiting_of, waiting_on}

-- what stands from a place on
next-drop : {X : Type 0} (xs : List X) (k : ℕ) (x : X) → slice_get xs k ≡ Some x → drop k xs ≡ x ∷ drop (suc k) xs
next-drop [] k x there = absurd cc
next-drop (y ∷ xs) zero x there = ap (λ z. z ∷ xs) (some-same y x there)
next-drop (y ∷ xs) (suc k) x there = next-drop xs k x there

none-drop : {X : Type 0} (xs : List X) (k : ℕ) → slice_get xs k ≡ None → drop k xs ≡ []
none-drop [] zero none = refl
none-drop [] (suc k) none = refl
none-drop (x ∷ xs) zero none = absurd cc
none-drop (x ∷ xs) (suc k) none = none-drop xs k none

none-within : {X : Type 0} (k : ℕ) → slice_get {X = X} [] k ≡ None
none-within zero = refl
none-within (suc k) = refl

-- an item by its place is one of all that a connection put out
item-is : (o : Option LineView) (place : ℕ)
    → option_and_then (λ (l : LineView). slice_get l.outbox place) o ≡ slice_get (option_map_or (λ (l : LineView). l.outbox) o []) place
item-is None place = sym (none-within place)
item-is (Some l) place = refl

-- before the first item was copied, after one more, and after the last
waiting-from : (o : Option LineView)
    → drop (option_map_or (λ (l : LineView). l.lifted) o 0) (option_map_or (λ (l : LineView). l.outbox) o [])
    ≡ option_map_or (λ (l : LineView). drop l.lifted l.outbox) o []
waiting-from None = refl
waiting-from (Some l) = refl

pub copied-none : (lines : List LineView) (line : ℕ) → [] ++ drop (lifted_on lines line) (put_out_on lines line) ≡ waiting_on lines line
copied-none lines line = waiting-from (line_at lines line)

pub copied-more : (lines : List LineView) (line place next : ℕ) (items : List Item) (item : Item) → next ≡ place + 1
    → Some item ≡ item_on lines line place → items ++ drop place (put_out_on lines line) ≡ waiting_on lines line
    → (items ++ item ∷ []) ++ drop next (put_out_on lines line) ≡ waiting_on lines line
copied-more lines line place next items item is there done =
    let step : next ≡ suc place = omega (arith, is) in
    let at : slice_get (put_out_on lines line) place ≡ Some item = sym (item-is (line_at lines line) place) ∙ sym there in
    append_assoc items (item ∷ []) (drop next (put_out_on lines line))
    ∙ ap (λ n. items ++ item ∷ drop n (put_out_on lines line)) step
    ∙ ap (λ rest. items ++ rest) (sym (next-drop (put_out_on lines line) place item at)) ∙ done

pub copied-all : (lines : List LineView) (line place : ℕ) (items : List Item) → None ≡ item_on lines line place
    → items ++ drop place (put_out_on lines line) ≡ waiting_on lines line → items ≡ waiting_on lines line
copied-all lines line place items none done =
    sym (append-nil items)
    ∙ ap (λ rest. items ++ rest) (sym (none-drop (put_out_on lines line) place (sym (item-is (line_at lines line) place) ∙ sym none))) ∙ done

-- what waits at a source that is there
waiting-at : (settings : Settings) (log : List Entry) (s : Stored) (place : ℕ) → IsTied settings log s → place < settings.desks + 1
    → waiting_in (slice_get s.outboxes place) ≡ outbox settings log (source_at place)
waiting-at settings log s place tied less = let is = outbox_there settings log s place tied less in ap waiting_in is.there ∙ ap items_out is.outbox

pub waiting_of-log : (settings : Settings) (log : List Entry) (s : Stored) (source : Source) → IsTied settings log s → is_source settings log source ≡ true
    → waiting_of source s ≡ outbox settings log source
waiting_of-log settings log s (Line line) tied there =
    let is = line_there settings log s line tied there in
    ap (λ (o : Option LineView). option_map_or (λ (l : LineView). drop l.lifted l.outbox) o [])
    (ap (line_at s.lines) is.number ∙ line_at-suc s.lines is.place ∙ is.there)
    ∙ ap (drop is.l.lifted) is.outbox
    ∙ ap (λ n. drop n (posts settings log (Line line))) is.lifted_is
waiting_of-log settings log s (Shard shard) tied there = let is = shard_there settings log s shard tied there in ap waiting_at is.there ∙ ap items_out is.outbox
waiting_of-log settings log s (Desk desk) tied there = waiting-at settings log s (suc desk) tied (desk_there settings log desk there)
waiting_of-log settings log s Clock tied there = waiting-at settings log s 0 tied (omega arith)

-- a connection that is not there
line-none : (lines : List LineView) (line : ℕ) → (nat_lt 0 line && nat_le line (length lines)) ≡ false → line_at lines line ≡ None
line-none lines line none = by (line == 0) refl
  where
    by : (b : Bool) → (line == 0) ≡ b → (if b then None else slice_get lines (line - 1)) ≡ None
    by true is = refl
    by false is = slice_get_past lines (line - 1) (grind (arith, nat_tests, is, none))

-- at one that is not there nothing waits
pub waiting_of-none : (settings : Settings) (log : List Entry) (s : Stored) (source : Source) → IsTied settings log s → is_source settings log source ≡ false
    → waiting_of source s ≡ []
waiting_of-none settings log s (Line line) tied none =
    let count = length_lines (meaning_of settings) s.lines log tied.lines in
    ap (λ (o : Option LineView). option_map_or (λ (l : LineView). drop l.lifted l.outbox) o [])
    (line-none s.lines line (ap (λ n. nat_lt 0 line && nat_le line n) count ∙ none))
waiting_of-none settings log s (Shard shard) tied none =
    let past : length s.shards ≤ shard = grind (arith, nat_tests, none, tied.shard_count) in ap waiting_at (slice_get_past s.shards shard past)
waiting_of-none settings log s (Desk desk) tied none =
    let past : length s.outboxes ≤ suc desk = grind (arith, nat_tests, none, tied.outbox_count) in ap waiting_in (slice_get_past s.outboxes (suc desk) past)
waiting_of-none settings log s Clock tied none = absurd cc
