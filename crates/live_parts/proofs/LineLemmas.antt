-- The connections are what the entries of their part say, with one more entry.
use Rattle.std.proofs.Common.{◌≡◌, ◌∙◌, ℕ, List, [], ◌∷◌, ◌++◌, Some, None, refl, ap, subst, sym}
use Rattle.std.specs.Prelude.{map, true}
use Rattle.std.proofs.lemmas.Bool.{false≢true}
use Rattle.std.proofs.lemmas.Option.{none-some}
use Rattle.bench_item.specs.Lines.{Acknowledged, Gone, LineStep, Received}
use Rattle.bench_item.specs.declared.entry.Entry.{Entry}
use Rattle.bench_item.specs.declared.item.Item.{Item}
use Rattle.bench_item.specs.declared.item.Item.TheVariants.{ToMachine, ToLine, Dial, Undial, Arm, Disarm}
use Rattle.bench_item.specs.declared.item.LineItem.{LineItem}
use Rattle.bench_item.specs.declared.opening.Opening.TheVariants as openings
use Rattle.bench_item.specs.declared.source.Source.{Source}
use Rattle.bench_item.specs.declared.source.Source.TheVariants.{Line}
use Rattle.bench_item.specs.declared.step.Step.{Step}
use Rattle.bench_item.specs.declared.step.Step.TheVariants.{Came, Dialled, Drop, Joined, Lift, Lost}
use Rattle.bench_line.specs.Line.{LineView}
use Rattle.bench_line.specs.Lines.{Past, AreLinesAfter, lifted_one, next_on, opened, with_line, with_step}
use Rattle.bench_log.specs.Targets.{deed_in}
use Rattle.bench_views.specs.Carried.{lifts}
use Rattle.bench_views.specs.LinePasts.{pasts_of}
use Rattle.bench_views.proofs.LineLifts.{is_lifted_so-kept, is_lifted_so-lifted, is_lifted_so-start, lifted_on-opened, lifted_on-same}
use Rattle.bench_views.proofs.LinePasts.{pasts_of-came, pasts_of-delivered, pasts_of-dial, pasts_of-dialled, pasts_of-joined, pasts_of-lifted, pasts_of-lost, pasts_of-undialled}
use Rattle.line_message.specs.Hearing.{Hearing}
use Rattle.bench_spec.specs.Merged.{Stamped}
use Rattle.live_parts.specs.Stamps.{StampedView, added}
use Rattle.live_parts.proofs.StampLemmas.{entries-snoc}
use Rattle.live_parts.specs.Entries.{bare_entry, carried_entry}
use Rattle.bench_views.specs.LineLifts.{IsLiftedSo}
use Rattle.live_parts.specs.LineParts.{AreSo, HasCome, is_for_lines, meaning_by, pasts_with}

-- a connection is accepted
pub so-joined : (rules : Hearing) (old new : List LineView) (log : List Entry) → AreSo rules old log
    → ((pasts : List Past) → AreLinesAfter (meaning_by rules) old pasts → AreLinesAfter (meaning_by rules) new (opened openings.Accepted pasts))
    → map (λ l. l.lifted) new ≡ map (λ l. l.lifted) old ++ 0 ∷ []
    → AreSo rules new (log ++ bare_entry Joined ∷ [])
so-joined rules old new log so stands more = record {
  stand = subst (AreLinesAfter (meaning_by rules) new) (sym (pasts_of-joined log None None)) (stands (pasts_of log) so.stand);
  lifted = is_lifted_so-kept old new log (bare_entry Joined) (lifted_on-opened old new more) (λ line. refl) so.lifted;
}

-- something happens to one
pub so-step : (rules : Hearing) (old new : List LineView) (log : List Entry) (step : Step) (line : ℕ) (happened : LineStep) → AreSo rules old log
    → pasts_of (log ++ bare_entry step ∷ []) ≡ with_step line happened (pasts_of log)
    → ((n : ℕ) → lifts (Line n) (bare_entry step) ≡ [])
    → ((pasts : List Past) → AreLinesAfter (meaning_by rules) old pasts → AreLinesAfter (meaning_by rules) new (with_step line happened pasts))
    → map (λ l. l.lifted) new ≡ map (λ l. l.lifted) old
    → AreSo rules new (log ++ bare_entry step ∷ [])
so-step rules old new log step line happened so goes none stands same = record {
  stand = subst (AreLinesAfter (meaning_by rules) new) (sym goes) (stands (pasts_of log) so.stand);
  lifted = is_lifted_so-kept old new log (bare_entry step) (lifted_on-same old new same) none so.lifted;
}

-- an item is lifted from one
pub so-lifted : (rules : Hearing) (old : List LineView) (log : List Entry) (line : ℕ) (item : Item) → AreSo rules old log
    → next_on old line ≡ Some item
    → ((pasts : List Past) → AreLinesAfter (meaning_by rules) old pasts → AreLinesAfter (meaning_by rules) (with_line line lifted_one old) pasts)
    → AreSo rules (with_line line lifted_one old) (log ++ carried_entry (Lift (Line line)) item ∷ [])
so-lifted rules old log line item so next stands = record {
  stand =
      subst (AreLinesAfter (meaning_by rules) (with_line line lifted_one old)) (sym (pasts_of-lifted log (Line line) (Some item) None))
      (stands (pasts_of log) so.stand);
  lifted = is_lifted_so-lifted old log line item None next so.lifted;
}

-- an item comes to them
come : (rules : Hearing) (old new : List LineView) (log : List Entry) (source : Source) (item : Item) → AreSo rules old log
    → pasts_of (log ++ carried_entry (Drop source) item ∷ []) ≡ pasts_with item (pasts_of log)
    → IsLiftedSo new (log ++ carried_entry (Drop source) item ∷ []) → HasCome rules old new item
    → AreSo rules new (log ++ carried_entry (Drop source) item ∷ [])
come rules old new log source item so goes lifted c = record {
  stand = subst (AreLinesAfter (meaning_by rules) new) (sym goes) (c.stands (pasts_of log) so.stand);
  lifted = lifted;
}

pub so-come : (rules : Hearing) (old new : List LineView) (log : List Entry) (source : Source) (item : Item) → is_for_lines item ≡ true
    → AreSo rules old log → HasCome rules old new item → AreSo rules new (log ++ carried_entry (Drop source) item ∷ [])
so-come rules old new log source (ToMachine i) is so c = absurd (false≢true is)
so-come rules old new log source (ToLine i) is so c =
    come rules old new log source (ToLine i) so (pasts_of-delivered log source i None)
    (is_lifted_so-kept old new log (carried_entry (Drop source) (ToLine i)) (lifted_on-same old new c.lifted) (λ n. refl) so.lifted) c
so-come rules old new log source (Dial peer generation) is so c =
    come rules old new log source (Dial peer generation) so (pasts_of-dial log source peer generation None)
    (is_lifted_so-kept old new log (carried_entry (Drop source) (Dial peer generation)) (lifted_on-opened old new c.lifted) (λ n. refl) so.lifted) c
so-come rules old new log source (Undial peer generation) is so c =
    come rules old new log source (Undial peer generation) so (pasts_of-undialled log source peer generation None)
    (is_lifted_so-kept old new log (carried_entry (Drop source) (Undial peer generation)) (lifted_on-same old new c.lifted) (λ n. refl) so.lifted) c
so-come rules old new log source (Arm machine generation ticks) is so c = absurd (false≢true is)
so-come rules old new log source (Disarm machine) is so c = absurd (false≢true is)

-- an item for a connection is its deed
pub deed-is : (item : Item) (deed : LineItem) → deed_in item ≡ Some deed → item ≡ ToLine deed
deed-is (ToMachine i) deed is = absurd (none-some deed is)
deed-is (ToLine i) deed is = cc
deed-is (Dial peer generation) deed is = absurd (none-some deed is)
deed-is (Undial peer generation) deed is = absurd (none-some deed is)
deed-is (Arm machine generation ticks) deed is = absurd (none-some deed is)
deed-is (Disarm machine) deed is = absurd (none-some deed is)

-- none was opened yet
pub so-none : (rules : Hearing) → AreLinesAfter (meaning_by rules) [] [] → AreSo rules [] []
so-none rules stand = record { stand = stand; lifted = is_lifted_so-start }

-- the log of a part to which an entry was put
pub put-log : (old reserved put : StampedView) (stamp : ℕ) (e kept : Entry) → reserved.entries ≡ old.entries → put ≡ added reserved stamp kept
    → kept ≡ e → map (λ (s : Stamped). s.entry) put.entries ≡ map (λ (s : Stamped). s.entry) old.entries ++ e ∷ []
put-log old reserved put stamp e kept same is kept_is =
    ap (λ (v : StampedView). map (λ (s : Stamped). s.entry) v.entries) is
    ∙ entries-snoc reserved.entries stamp kept
    ∙ ap (λ (es : List Stamped). map (λ (s : Stamped). s.entry) es ++ kept ∷ []) same
    ∙ ap (λ (x : Entry). map (λ (s : Stamped). s.entry) old.entries ++ x ∷ []) kept_is

-- the same with who listens as before, and the log that has the entry
pub came-put : (rules heard : Hearing) (old new : List LineView) (log logged : List Entry) (line : ℕ) (piece : List ℕ) → heard ≡ rules
    → logged ≡ log ++ bare_entry (Came line piece) ∷ [] → AreSo rules old log
    → ((pasts : List Past) → AreLinesAfter (meaning_by rules) old pasts → AreLinesAfter (meaning_by rules) new (with_step line (Received piece) pasts))
    → map (λ l. l.lifted) new ≡ map (λ l. l.lifted) old → AreSo heard new logged
came-put rules heard old new log logged line piece same is so stands lifted =
    rw (same, is) (so-step rules old new log (Came line piece) line (Received piece) so (pasts_of-came log line piece None None) (λ n. refl) stands lifted)

pub dialled-put : (rules heard : Hearing) (old new : List LineView) (log logged : List Entry) (line : ℕ) → heard ≡ rules
    → logged ≡ log ++ bare_entry (Dialled line) ∷ [] → AreSo rules old log
    → ((pasts : List Past) → AreLinesAfter (meaning_by rules) old pasts → AreLinesAfter (meaning_by rules) new (with_step line Acknowledged pasts))
    → map (λ l. l.lifted) new ≡ map (λ l. l.lifted) old → AreSo heard new logged
dialled-put rules heard old new log logged line same is so stands lifted =
    rw (same, is) (so-step rules old new log (Dialled line) line Acknowledged so (pasts_of-dialled log line None None) (λ n. refl) stands lifted)

pub lost-put : (rules heard : Hearing) (old new : List LineView) (log logged : List Entry) (line : ℕ) → heard ≡ rules
    → logged ≡ log ++ bare_entry (Lost line) ∷ [] → AreSo rules old log
    → ((pasts : List Past) → AreLinesAfter (meaning_by rules) old pasts → AreLinesAfter (meaning_by rules) new (with_step line Gone pasts))
    → map (λ l. l.lifted) new ≡ map (λ l. l.lifted) old → AreSo heard new logged
lost-put rules heard old new log logged line same is so stands lifted =
    rw (same, is) (so-step rules old new log (Lost line) line Gone so (pasts_of-lost log line None None) (λ n. refl) stands lifted)

pub joined-put : (rules heard : Hearing) (old new : List LineView) (log logged : List Entry) → heard ≡ rules
    → logged ≡ log ++ bare_entry Joined ∷ [] → AreSo rules old log
    → ((pasts : List Past) → AreLinesAfter (meaning_by rules) old pasts → AreLinesAfter (meaning_by rules) new (opened openings.Accepted pasts))
    → map (λ l. l.lifted) new ≡ map (λ l. l.lifted) old ++ 0 ∷ [] → AreSo heard new logged
joined-put rules heard old new log logged same is so stands more = rw (same, is) (so-joined rules old new log so stands more)

pub lifted-put : (rules heard : Hearing) (old new : List LineView) (log logged : List Entry) (line : ℕ) (item : Item) → heard ≡ rules
    → logged ≡ log ++ carried_entry (Lift (Line line)) item ∷ [] → new ≡ with_line line lifted_one old → AreSo rules old log
    → next_on old line ≡ Some item
    → ((pasts : List Past) → AreLinesAfter (meaning_by rules) old pasts → AreLinesAfter (meaning_by rules) new pasts) → AreSo heard new logged
lifted-put rules heard old new log logged line item same is new_is so next stands =
    rw (same, is)
    (subst (λ ls. AreSo rules ls (log ++ carried_entry (Lift (Line line)) item ∷ [])) (sym new_is)
    (so-lifted rules old log line item so next (λ pasts s. subst (λ ls. AreLinesAfter (meaning_by rules) ls pasts) new_is (stands pasts s))))

pub come-put : (rules heard : Hearing) (old new : List LineView) (log logged : List Entry) (source : Source) (item : Item) → heard ≡ rules
    → logged ≡ log ++ carried_entry (Drop source) item ∷ [] → is_for_lines item ≡ true → AreSo rules old log → HasCome rules old new item
    → AreSo heard new logged
come-put rules heard old new log logged source item same is for so c = rw (same, is) (so-come rules old new log source item for so c)
