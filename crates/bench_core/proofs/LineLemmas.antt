-- What happens to connections: the entry may follow, the parts are what the log then says, and are taken back.
use Rattle.std.proofs.Common.{◌≡◌, ℕ, List, [], ◌∷◌, ◌++◌, Bool, None, refl, sym, ap, subst}
use Rattle.std.specs.Global.{Vec}
use Rattle.bench_item.specs.declared.entry.Entry.{Entry}
use Rattle.bench_item.specs.declared.step.Step.{Step}
use Rattle.bench_item.specs.declared.step.Step.TheVariants.{Came, Dialled, Lost}
use Rattle.bench_item.specs.Lines.{Acknowledged, Gone, LineStep, Received}
use Rattle.bench_line.specs.Change.{taken_back}
use Rattle.bench_line.specs.Line.{LineView}
use Rattle.bench_line.specs.Lines.{LinesView, with_step}
use Rattle.bench_line.specs.declared.change.Change.{Change}
use Rattle.bench_log.specs.Logged.{Logged}
use Rattle.bench_spec.specs.Items.{InOrder}
use Rattle.bench_spec.specs.Legal.{MayFollow}
use Rattle.bench_spec.specs.Refusal.{refusal}
use Rattle.bench_spec.specs.Rules.{listening}
use Rattle.bench_spec.specs.Settings.{Settings}
use Rattle.bench_spec.specs.Taken.{Takes, with_log}
use Rattle.bench_spec.proofs.BookLemmas.{entry_of}
use Rattle.bench_spec.proofs.PauseLemmas.{refusal-unpaused}
use Rattle.bench_undo.specs.Records.{UndoState}
use Rattle.bench_undo.specs.declared.undo.Undo.{Undo}
use Rattle.bench_undo.specs.declared.undo.Undo.TheVariants as undos
use Rattle.bench_views.specs.Stored.{IsTied, Stored}
use Rattle.bench_views.proofs.Distinct.{Each-append}
use Rattle.bench_views.proofs.LineSteps.{tied-came, tied-dialled, tied-lost}
use Rattle.bench_views.proofs.LineViews.{posts-go_on}
use Rattle.bench_views.proofs.Order.{Carries, Handles, order-after}
use Rattle.bench_carry.specs.Dropped.{LinesGoOn, meaning_to}
use Rattle.bench_carry.specs.Placed.{IsPlaced}
use Rattle.bench_carry.specs.Undone.{undone}
use Rattle.line_message.specs.Hearing.{Hearing}
use Rattle.bench_core.specs.Inside.{IsSound, paused_in, run_in, settings_in, stored_in}
use Rattle.bench_core.specs.Whole.{MayUndo}
use Rattle.bench_core.specs.declared.keeping.Core.TheInside.{Inside}
use Rattle.bench_core.proofs.LegalLemmas.{legal_order}
use Rattle.bench_core.proofs.WholeLemmas.{whole-after}

-- The entry may follow.
dialled-follows : (settings : Settings) (log : List Entry) (paused : List Bool) (s : Stored) (line : ℕ) → InOrder settings log
    → IsTied settings log s
    → refusal settings log paused (Dialled line) ≡ None → MayFollow settings log (entry_of (Dialled line) None None)
dialled-follows settings log paused s line order tied could = record {
  could = refusal-unpaused settings log paused (Dialled line) could;
  parts = (refl, refl);
  order =
      order-after settings log (entry_of (Dialled line) None None) order
      (posts-go_on settings s.lines log paused (entry_of (Dialled line) None None) tied.lines could)
      (λ source. Carries.Rests refl refl) (λ shard. Handles.Idles refl);
}

came-follows : (settings : Settings) (log : List Entry) (paused : List Bool) (s : Stored) (line : ℕ) (piece : List ℕ)
    → InOrder settings log → IsTied settings log s
    → refusal settings log paused (Came line piece) ≡ None → MayFollow settings log (entry_of (Came line piece) None None)
came-follows settings log paused s line piece order tied could = record {
  could = refusal-unpaused settings log paused (Came line piece) could;
  parts = (refl, refl);
  order =
      order-after settings log (entry_of (Came line piece) None None) order
      (posts-go_on settings s.lines log paused (entry_of (Came line piece) None None) tied.lines could)
      (λ source. Carries.Rests refl refl) (λ shard. Handles.Idles refl);
}

lost-follows : (settings : Settings) (log : List Entry) (paused : List Bool) (s : Stored) (line : ℕ) → InOrder settings log
    → IsTied settings log s
    → refusal settings log paused (Lost line) ≡ None → MayFollow settings log (entry_of (Lost line) None None)
lost-follows settings log paused s line order tied could = record {
  could = refusal-unpaused settings log paused (Lost line) could;
  parts = (refl, refl);
  order =
      order-after settings log (entry_of (Lost line) None None) order
      (posts-go_on settings s.lines log paused (entry_of (Lost line) None None) tied.lines could)
      (λ source. Carries.Rests refl refl) (λ shard. Handles.Idles refl);
}

-- A step goes on: its entry may follow, and with these lines, and these counts of what was dropped of each, the parts are what the log then
-- says.
pub record GoesOn (w : Inside) (step : Step) (lines : List LineView) (carried : List ℕ) : Type 0 where
  pub could : refusal (settings_in w) w.log.entries (paused_in w) step ≡ None
  pub follows : MayFollow (settings_in w) w.log.entries (entry_of step None None)
  pub tied : IsTied (settings_in w) (w.log.entries ++ entry_of step None None ∷ []) (record (stored_in w) { lines = lines; carried = carried })

-- the lines go on as those listen who were told at the opening
heard-on : (w : Inside) (lines : List LineView) (line : ℕ) (step : LineStep) → IsSound w
    → LinesGoOn (meaning_to w.lines.rules) w.lines.lines lines (with_step line step)
    → LinesGoOn (meaning_to (listening (settings_in w))) w.lines.lines lines (with_step line step)
heard-on w lines line step sound goes = subst (λ who. LinesGoOn (meaning_to who) w.lines.lines lines (with_step line step)) sound.listens goes

-- a dial is acknowledged
pub dialled-goes_on : (w : Inside) (line : ℕ) (lines : List LineView) → IsSound w
    → refusal (settings_in w) w.log.entries (paused_in w) (Dialled line) ≡ None
    → LinesGoOn (meaning_to w.lines.rules) w.lines.lines lines (with_step line Acknowledged) → GoesOn w (Dialled line) lines w.carried.items
dialled-goes_on w line lines sound could goes =
    let on = heard-on w lines line Acknowledged sound goes in
    record {
      could = could;
      follows =
          dialled-follows (settings_in w) w.log.entries (paused_in w) (stored_in w) line (legal_order (settings_in w) w.log.entries sound.whole.legal)
          sound.whole.tied could;
      tied = tied-dialled (settings_in w) w.log.entries line (stored_in w) lines sound.whole.tied on.stands on.counts;
    }

-- octets come
pub came-goes_on : (w : Inside) (line : ℕ) (piece : List ℕ) (lines : List LineView) → IsSound w
    → refusal (settings_in w) w.log.entries (paused_in w) (Came line piece) ≡ None
    → LinesGoOn (meaning_to w.lines.rules) w.lines.lines lines (with_step line (Received piece))
    → GoesOn w (Came line piece) lines w.carried.items
came-goes_on w line piece lines sound could goes =
    let on = heard-on w lines line (Received piece) sound goes in
    record {
      could = could;
      follows =
          came-follows (settings_in w) w.log.entries (paused_in w) (stored_in w) line piece
          (legal_order (settings_in w) w.log.entries sound.whole.legal) sound.whole.tied could;
      tied = tied-came (settings_in w) w.log.entries line piece (stored_in w) lines sound.whole.tied on.stands on.counts;
    }

-- a connection is lost
pub lost-goes_on : (w : Inside) (line : ℕ) (lines : List LineView) → IsSound w
    → refusal (settings_in w) w.log.entries (paused_in w) (Lost line) ≡ None
    → LinesGoOn (meaning_to w.lines.rules) w.lines.lines lines (with_step line Gone) → GoesOn w (Lost line) lines w.carried.items
lost-goes_on w line lines sound could goes =
    let on = heard-on w lines line Gone sound goes in
    record {
      could = could;
      follows =
          lost-follows (settings_in w) w.log.entries (paused_in w) (stored_in w) line (legal_order (settings_in w) w.log.entries sound.whole.legal)
          sound.whole.tied could;
      tied = tied-lost (settings_in w) w.log.entries line (stored_in w) lines sound.whole.tied on.stands on.counts;
    }

-- so the world is sound behind it: its entry is written, and the record that takes the parts back
pub line-sound : (w : Inside) (step : Step) (lines : LinesView Hearing) (carried : Vec ℕ) (log : Logged) (records : UndoState) (undo : Undo) → IsSound w
    → GoesOn w step lines.lines carried.items → lines.rules ≡ w.lines.rules
    → MayUndo undo (record (stored_in w) { lines = lines.lines; carried = carried.items }) → IsPlaced w.wheel undo
    → undone undo (record (stored_in w) { lines = lines.lines; carried = carried.items }) ≡ stored_in w
    → log.entries ≡ w.log.entries ++ entry_of step None None ∷ [] → records.records ≡ w.undo.records ++ undo ∷ []
    → IsSound (record w { lines = lines; carried = carried; log = log; undo = records })
line-sound w step lines carried log records undo sound goes same may place back is_log is_undos =
    subst (λ who. IsSound (record w { lines = record { rules = who; lines = lines.lines }; carried = carried; log = log; undo = records })) (sym same) (record {
      whole = rw (is_log, is_undos)
          (whole-after (settings_in w) w.log.entries (stored_in w) (record (stored_in w) { lines = lines.lines; carried = carried.items }) w.undo.records
          (entry_of step None None) undo sound.whole goes.follows goes.tied may back);
      listens = sound.listens;
      pages = sound.pages;
      paged = sound.paged;
      shards = sound.shards;
      placed = rw is_undos (Each-append (IsPlaced w.wheel) w.undo.records (undo ∷ []) sound.placed (place, tt));
    })

-- what changes lines alone
pub lines-sound : (w : Inside) (step : Step) (lines : LinesView Hearing) (log : Logged) (records : UndoState) (change : Change) → IsSound w
    → GoesOn w step lines.lines w.carried.items → lines.rules ≡ w.lines.rules → taken_back change lines.lines ≡ w.lines.lines
    → log.entries ≡ w.log.entries ++ entry_of step None None ∷ [] → records.records ≡ w.undo.records ++ undos.Lines change ∷ []
    → IsSound (record w { lines = lines; log = log; undo = records })
lines-sound w step lines log records change sound goes same back is_log is_undos =
    line-sound w step lines w.carried log records (undos.Lines change) sound goes same tt tt (ap (λ ls. record (stored_in w) { lines = ls }) back) is_log
    is_undos

-- and the step is taken
pub line-takes : (w : Inside) (step : Step) (lines : LinesView Hearing) (carried : Vec ℕ) (log : Logged) (records : UndoState)
    → GoesOn w step lines.lines carried.items → lines.rules ≡ w.lines.rules → log.entries ≡ w.log.entries ++ entry_of step None None ∷ []
    → Takes (run_in w) (run_in (record w { lines = lines; carried = carried; log = log; undo = records })) step
line-takes w step lines carried log records goes same is_log =
    subst
    (λ who. Takes (run_in w) (run_in (record w { lines = record { rules = who; lines = lines.lines }; carried = carried; log = log; undo = records })) step)
    (sym same) (record {
      entry = entry_of step None None;
      of_step = refl;
      could = goes.could;
      follows = goes.follows;
      grown = ap (with_log (run_in w)) is_log;
    })
