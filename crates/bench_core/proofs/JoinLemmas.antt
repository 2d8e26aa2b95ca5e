-- A connection is accepted: the entry may follow, the parts are what the log then says, and are taken back.
use Rattle.std.proofs.Common.{◌≡◌, ◌-◌, ℕ, List, [], ◌∷◌, ◌++◌, Bool, None, refl, sym, ◌∙◌, ap, subst, arith, length, length-append, take}
use Rattle.std.specs.Prelude.{map}
use Rattle.std.specs.Global.{Vec}
use Rattle.std.proofs.Math.Seq.{take-append_seam}
use Rattle.bench_item.specs.declared.entry.Entry.{Entry}
use Rattle.bench_item.specs.declared.opening.Opening.TheVariants as openings
use Rattle.bench_item.specs.declared.step.Step.TheVariants.{Joined}
use Rattle.bench_line.specs.Change.{taken_back}
use Rattle.bench_line.specs.Line.{LineView}
use Rattle.bench_line.specs.Lines.{LinesView, Past, AreLinesAfter, opened}
use Rattle.bench_line.specs.declared.change.Change.TheVariants as changes
use Rattle.bench_log.specs.Logged.{Logged}
use Rattle.bench_spec.specs.Items.{InOrder}
use Rattle.bench_spec.specs.Legal.{MayFollow}
use Rattle.bench_spec.specs.Refusal.{refusal}
use Rattle.bench_spec.specs.Settings.{Settings}
use Rattle.bench_spec.proofs.BookLemmas.{entry_of}
use Rattle.bench_spec.proofs.PauseLemmas.{refusal-unpaused}
use Rattle.bench_undo.specs.Records.{UndoState}
use Rattle.bench_undo.specs.declared.undo.Undo.TheVariants as undos
use Rattle.bench_views.specs.Stored.{IsTied, Stored}
use Rattle.bench_views.proofs.LineSteps.{tied-joined}
use Rattle.bench_views.proofs.LineViews.{posts-go_on}
use Rattle.bench_views.proofs.Order.{Carries, Handles, order-after}
use Rattle.bench_carry.specs.Dropped.{meaning_to}
use Rattle.line_message.specs.Hearing.{Hearing}
use Rattle.bench_core.specs.Inside.{IsSound, paused_in, settings_in, stored_in}
use Rattle.bench_core.specs.declared.keeping.Core.TheInside.{Inside}
use Rattle.bench_core.proofs.LegalLemmas.{legal_order}
use Rattle.bench_core.proofs.LineLemmas.{GoesOn, line-sound}

-- the entry may follow
joined-follows : (settings : Settings) (log : List Entry) (paused : List Bool) (s : Stored) → InOrder settings log → IsTied settings log s
    → refusal settings log paused Joined ≡ None → MayFollow settings log (entry_of Joined None None)
joined-follows settings log paused s order tied could = record {
  could = refusal-unpaused settings log paused Joined could;
  parts = (refl, refl);
  order =
      order-after settings log (entry_of Joined None None) order (posts-go_on settings s.lines log paused (entry_of Joined None None) tied.lines could)
      (λ source. Carries.Rests refl refl) (λ shard. Handles.Idles refl);
}

-- of the new connection nothing is lifted or dropped
pub joined-goes_on : (w : Inside) (lines : List LineView) → IsSound w → refusal (settings_in w) w.log.entries (paused_in w) Joined ≡ None
    → ((pasts : List Past) → AreLinesAfter (meaning_to w.lines.rules) w.lines.lines pasts
    → AreLinesAfter (meaning_to w.lines.rules) lines (opened openings.Accepted pasts))
    → map (λ l. l.lifted) lines ≡ map (λ l. l.lifted) w.lines.lines ++ 0 ∷ [] → GoesOn w Joined lines (w.carried.items ++ 0 ∷ [])
joined-goes_on w lines sound could stands counts =
    let order = legal_order (settings_in w) w.log.entries sound.whole.legal in
    record {
      could = could;
      follows = joined-follows (settings_in w) w.log.entries (paused_in w) (stored_in w) order sound.whole.tied could;
      tied =
          tied-joined (settings_in w) w.log.entries (stored_in w) lines sound.whole.tied order
          (subst
          (λ who. (pasts : List Past) → AreLinesAfter (meaning_to who) w.lines.lines pasts
          → AreLinesAfter (meaning_to who) lines (opened openings.Accepted pasts))
          sound.listens stands)
          counts;
    }

-- all but the last are those before it
take-last : {X : Type 0} (xs : List X) (x : X) → take (length (xs ++ x ∷ []) - 1) (xs ++ x ∷ []) ≡ xs
take-last xs x = ap (λ n. take n (xs ++ x ∷ [])) short ∙ take-append_seam xs (x ∷ [])
  where
    short : length (xs ++ x ∷ []) - 1 ≡ length xs
    short = omega (arith, length-append xs (x ∷ []))

-- so the world is sound behind it
pub joined-sound : (w : Inside) (lines : LinesView Hearing) (carried : Vec ℕ) (log : Logged) (records : UndoState) → IsSound w
    → GoesOn w Joined lines.lines (w.carried.items ++ 0 ∷ []) → lines.rules ≡ w.lines.rules
    → taken_back changes.Opened lines.lines ≡ w.lines.lines
    → carried.items ≡ w.carried.items ++ 0 ∷ [] → log.entries ≡ w.log.entries ++ entry_of Joined None None ∷ []
    → records.records ≡ w.undo.records ++ undos.Opened ∷ []
    → IsSound (record w { lines = lines; carried = carried; log = log; undo = records })
joined-sound w lines carried log records sound goes same back more is_log is_undos =
    line-sound w Joined lines carried log records undos.Opened sound (subst (GoesOn w Joined lines.lines) (sym more) goes) same tt tt
    (ap (λ ls. record (stored_in w) { lines = ls; carried = take (length carried.items - 1) carried.items }) back
    ∙ ap (λ cs. record (stored_in w) { carried = cs }) (ap (λ cs. take (length cs - 1) cs) more ∙ take-last w.carried.items 0))
    is_log is_undos
