-- What a bench keeps is what the log says once an item is dropped that is for a line, opens or ends one, arms a timer or disarms it.
use Rattle.std.proofs.Common.{◌≡◌, ◌+◌, ℕ, suc, List, [], ◌∷◌, ◌++◌, length, length-append, true, false, Some, None, refl, sym, ◌∙◌, ap, subst, arith}
use Rattle.std.specs.Prelude.{map, nat_le, nat_lt, if◌then◌else◌}
use Rattle.std.proofs.lemmas.Bool.Decides.{nat_tests}
use Rattle.std.proofs.lemmas.List.{length-map}
use Rattle.tick_wheel.specs.Timers.{with_timer}
use Rattle.bench_item.specs.declared.entry.Entry.{Entry}
use Rattle.bench_item.specs.declared.item.Item.TheVariants.{ToLine, Dial, Undial, Arm, Disarm}
use Rattle.bench_item.specs.declared.item.LineItem.{LineItem}
use Rattle.bench_item.specs.declared.opening.Opening.TheVariants as openings
use Rattle.bench_item.specs.declared.source.Source.{Source}
use Rattle.bench_item.specs.declared.source.Source.TheVariants.{Clock, Desk, Line, Shard}
use Rattle.bench_item.specs.declared.step.Step.TheVariants.{Drop}
use Rattle.bench_item.specs.Lines.{Delivered, Undialled}
use Rattle.bench_item.specs.Steps.{is_same_source}
use Rattle.bench_line.specs.Line.{LineView}
use Rattle.bench_line.specs.Lines.{Past, AreLinesAfter, one_more, opened, with_step}
use Rattle.bench_queue.specs.Outbox.{has_hand}
use Rattle.bench_spec.specs.Items.{InOrder, dropped}
use Rattle.bench_spec.specs.Lines.{opening_of, openings as openings_of}
use Rattle.bench_spec.specs.Refusal.{is_source}
use Rattle.bench_spec.specs.Settings.{Settings}
use Rattle.bench_spec.proofs.BookLemmas.{entry_of}
use Rattle.bench_views.specs.Behind.{dropped_from}
use Rattle.bench_views.specs.LinePasts.{pasts_of}
use Rattle.bench_views.specs.Shards.{outbox_at}
use Rattle.bench_views.specs.Stored.{IsTied, Stored, meaning_of}
use Rattle.bench_views.proofs.Behind.{dropped-same}
use Rattle.bench_views.proofs.Dropping.{HasNumber, both_true, count_count, counts_of, has_number, lines_by, lines_kept, tied-dropped, timers_kept}
use Rattle.bench_views.proofs.Acting.{each-push}
use Rattle.bench_views.proofs.LinePasts.{pasts_of-armed, pasts_of-delivered, pasts_of-dial, pasts_of-disarmed, pasts_of-undialled}
use Rattle.bench_views.proofs.LineStands.{length_lines}
use Rattle.bench_views.proofs.Opened.{IsNewLine, length-opened, lifted_of-opened, new_line, unopened}
use Rattle.bench_views.proofs.Timers.{changes-arm, changes-disarm, is_armed_so-changed, keeps-delivered, keeps-dial, keeps-undialled}

-- a timer is armed
pub tied-arm : (settings : Settings) (log : List Entry) (source : Source) (machine generation ticks due : ℕ) (s : Stored)
    → IsTied settings log s → has_hand (outbox_at settings log source) ≡ true → HasNumber source
    → IsTied settings (log ++ entry_of (Drop source) (Some (Arm machine generation ticks)) None ∷ [])
    (record (dropped_from source s) { timers = with_timer s.timers machine (Some (record { generation = generation; due = due })) })
tied-arm settings log source machine generation ticks due s tied has some =
    tied-dropped settings log source (Arm machine generation ticks) s tied has some (dropped_from source s).lines (dropped_from source s).carried
    (with_timer s.timers machine (Some (record { generation = generation; due = due }))) (λ shard. refl)
    (lines_kept settings log source (Arm machine generation ticks) s tied has some (pasts_of-armed log source machine generation ticks None))
    (is_armed_so-changed s.timers log (entry_of (Drop source) (Some (Arm machine generation ticks)) None) machine
    (Some (record { generation = generation; due = due })) (changes-arm source machine generation ticks None) tied.timers)

-- and disarmed
pub tied-disarm : (settings : Settings) (log : List Entry) (source : Source) (machine : ℕ) (s : Stored) → IsTied settings log s
    → has_hand (outbox_at settings log source) ≡ true → HasNumber source
    → IsTied settings (log ++ entry_of (Drop source) (Some (Disarm machine)) None ∷ [])
    (record (dropped_from source s) { timers = with_timer s.timers machine None })
tied-disarm settings log source machine s tied has some =
    tied-dropped settings log source (Disarm machine) s tied has some (dropped_from source s).lines (dropped_from source s).carried
    (with_timer s.timers machine None) (λ shard. refl)
    (lines_kept settings log source (Disarm machine) s tied has some (pasts_of-disarmed log source machine None))
    (is_armed_so-changed s.timers log (entry_of (Drop source) (Some (Disarm machine)) None) machine None (changes-disarm source machine None) tied.timers)

-- lines that are as many as before, as far as their counts are the same
pub same_count : (ls ms : List LineView) → map (λ l. l.lifted) ls ≡ map (λ l. l.lifted) ms → length ls ≡ length ms
same_count ls ms same = sym (length-map ls (λ l. l.lifted)) ∙ ap length same ∙ length-map ms (λ l. l.lifted)

-- a deed comes to a line
pub tied-delivered : (settings : Settings) (log : List Entry) (source : Source) (item : LineItem) (s : Stored) (ls : List LineView)
    → IsTied settings log s → has_hand (outbox_at settings log source) ≡ true → HasNumber source
    → ((pasts : List Past) → AreLinesAfter (meaning_of settings) s.lines pasts → AreLinesAfter (meaning_of settings) ls (with_step item.line (Delivered item) pasts))
    → map (λ l. l.lifted) ls ≡ map (λ l. l.lifted) s.lines
    → IsTied settings (log ++ entry_of (Drop source) (Some (ToLine item)) None ∷ []) (record (dropped_from source s) { lines = ls })
tied-delivered settings log source item s ls tied has some stands same =
    tied-dropped settings log source (ToLine item) s tied has some ls (dropped_from source s).carried (dropped_from source s).timers (λ shard. refl)
    (lines_by settings log source (ToLine item) s tied has some ls
    (subst (AreLinesAfter (meaning_of settings) ls) (sym (pasts_of-delivered log source item None)) (stands (pasts_of log) tied.lines)) same (same_count ls s.lines same))
    (timers_kept settings log source (ToLine item) s tied has some (keeps-delivered source item None))

-- a dial is given up
pub tied-undialled : (settings : Settings) (log : List Entry) (source : Source) (peer generation : ℕ) (s : Stored) (ls : List LineView)
    → IsTied settings log s → has_hand (outbox_at settings log source) ≡ true → HasNumber source
    → ((pasts : List Past) → AreLinesAfter (meaning_of settings) s.lines pasts → AreLinesAfter (meaning_of settings) ls (map (one_more (Undialled peer generation)) pasts))
    → map (λ l. l.lifted) ls ≡ map (λ l. l.lifted) s.lines
    → IsTied settings (log ++ entry_of (Drop source) (Some (Undial peer generation)) None ∷ []) (record (dropped_from source s) { lines = ls })
tied-undialled settings log source peer generation s ls tied has some stands same =
    tied-dropped settings log source (Undial peer generation) s tied has some ls (dropped_from source s).carried (dropped_from source s).timers (λ shard. refl)
    (lines_by settings log source (Undial peer generation) s tied has some ls
    (subst (AreLinesAfter (meaning_of settings) ls) (sym (pasts_of-undialled log source peer generation None)) (stands (pasts_of log) tied.lines)) same (same_count ls s.lines same))
    (timers_kept settings log source (Undial peer generation) s tied has some (keeps-undialled source peer generation None))

-- the line behind all is no source yet
not_yet : (settings : Settings) (log : List Entry) (source : Source) (line : ℕ) → line ≡ suc (length (openings_of log)) → is_source settings log source ≡ true
    → is_same_source (Line line) source ≡ false
not_yet settings log (Line n) line is there = grind (arith, nat_tests, is, both_true (nat_lt 0 n) (nat_le n (length (openings_of log))) there)
not_yet settings log (Shard shard) line is there = refl
not_yet settings log (Desk desk) line is there = refl
not_yet settings log Clock line is there = refl

-- A dial opens a line, of which nothing was lifted or dropped yet.
pub tied-dial : (settings : Settings) (log : List Entry) (source : Source) (peer generation : ℕ) (s : Stored) (ls : List LineView)
    → IsTied settings log s → InOrder settings log → has_hand (outbox_at settings log source) ≡ true → is_source settings log source ≡ true
    → ((pasts : List Past) → AreLinesAfter (meaning_of settings) s.lines pasts → AreLinesAfter (meaning_of settings) ls (opened (openings.Dialled peer generation) pasts))
    → map (λ l. l.lifted) ls ≡ map (λ l. l.lifted) s.lines ++ 0 ∷ []
    → IsTied settings (log ++ entry_of (Drop source) (Some (Dial peer generation)) None ∷ [])
    (record (dropped_from source s) { lines = ls; carried = (dropped_from source s).carried ++ 0 ∷ [] })
tied-dial settings log source peer generation s ls tied order has there stands more =
    tied-dropped settings log source (Dial peer generation) s tied has some ls ((dropped_from source s).carried ++ 0 ∷ []) (dropped_from source s).timers (λ shard. refl)
    (record {
      stand = subst (AreLinesAfter (meaning_of settings) ls) (sym (pasts_of-dial log source peer generation None)) (stands (pasts_of log) tied.lines);
      lifted_of = lifted_of-opened log e s.lines ls (λ line. refl) more first tied.lifted_of;
      carried_count =
          omega (arith, length-append (dropped_from source s).carried (0 ∷ []), count, length-opened s.lines ls more);
      carried_of =
          each-push (λ n c. c ≡ length (dropped (log ++ e ∷ []) (Line (suc n)))) (dropped_from source s).carried 0
          (counts_of settings log source (Dial peer generation) s tied has some) none;
    })
    (timers_kept settings log source (Dial peer generation) s tied has some (keeps-dial source peer generation None))
  where
    e : Entry
    e = entry_of (Drop source) (Some (Dial peer generation)) None

    some : HasNumber source
    some = has_number settings log source there

    count : length (dropped_from source s).carried ≡ length s.lines
    count = count_count settings log source (Dial peer generation) s tied has some

    number : suc (length s.lines) ≡ suc (length (openings_of log))
    number = ap suc (length_lines (meaning_of settings) s.lines log tied.lines)

    first : IsNewLine log (suc (length s.lines))
    first = new_line settings log (suc (length s.lines)) order (ap (opening_of log) number ∙ unopened log)

    none : 0 ≡ length (dropped (log ++ e ∷ []) (Line (suc (length (dropped_from source s).carried))))
    none =
        ap length (sym first.no_drop)
        ∙ sym (dropped-same log e (Line (suc (length s.lines))) (ap (λ b. if b then Dial peer generation ∷ [] else []) (not_yet settings log source (suc (length s.lines)) number there)))
        ∙ ap (λ n. length (dropped (log ++ e ∷ []) (Line (suc n)))) (sym count)
