-- The lines of a bench that stand for a log: where they stand, what they sent, what they put out and which of that is next;
-- and what they put out goes on with each step that may be taken.
use Rattle.std.proofs.Common.{◌≡◌, ℕ, List, [], ◌∷◌, ◌++◌, length, Bool, true, false, Option, Some, None, refl, sym, ◌∙◌, ap}
use Rattle.std.specs.Prelude.{◌&&◌, find, not, option_map, slice_get, if◌then◌else◌}
use Rattle.std.specs.List.{AllByRecursion as Each}
use Rattle.std.proofs.lemmas.Bool.{false≢true}
use Rattle.bench_item.specs.declared.entry.Entry.{Entry}
use Rattle.bench_item.specs.declared.entry.Handled.{Handled}
use Rattle.bench_item.specs.declared.item.Item.{Item}
use Rattle.bench_item.specs.declared.line_state.LineState.{LineState}
use Rattle.bench_item.specs.declared.line_state.LineState.TheVariants as at
use Rattle.bench_item.specs.declared.source.Source.TheVariants.{Line}
use Rattle.bench_item.specs.declared.step.Step.{Step}
use Rattle.bench_item.specs.declared.step.Step.TheVariants.{Joined, Dialled, Came, Lost, Told, Fired, Lift, Drop, Work}
use Rattle.bench_item.specs.declared.step.StepFault.{StepFault}
use Rattle.bench_line.specs.Line.{LineView}
use Rattle.bench_line.specs.Lines.{AreLinesAfter, next_on, sent_on, state_on}
use Rattle.bench_spec.specs.Items.{IsFront, lifted, posts}
use Rattle.bench_spec.specs.Lines.{line_state}
use Rattle.bench_spec.specs.Refusal.{is_dialling, is_open, reasons, refusal}
use Rattle.bench_spec.specs.Sent.{sent}
use Rattle.bench_spec.specs.Settings.{Settings}
use Rattle.bench_spec.proofs.BookLemmas.{entry_of}
use Rattle.bench_views.specs.LineLifts.{IsLiftedSo}
use Rattle.bench_views.specs.LinePasts.{EachMayCome, outbox_on, pasts_of}
use Rattle.bench_views.specs.Stored.{meaning_of}
use Rattle.bench_views.proofs.LineLifts.{next_on-lifted}
use Rattle.bench_views.proofs.LinePosts.{line_posts-go_on, may_come-came, may_come-dialled, may_come-dropped, may_come-lost, may_come-quiet}
use Rattle.bench_views.proofs.LineStands.{outbox_on-stands, sent_on-stands, state_on-stands}

-- where a line stands
pub state_on-log : (settings : Settings) (ls : List LineView) (log : List Entry) (line : ℕ)
    → AreLinesAfter (meaning_of settings) ls (pasts_of log) → state_on ls line ≡ line_state settings log line
state_on-log settings ls log line s = state_on-stands (meaning_of settings) ls log line s

-- what it sent
pub sent_on-log : (settings : Settings) (ls : List LineView) (log : List Entry) (line : ℕ)
    → AreLinesAfter (meaning_of settings) ls (pasts_of log) → sent_on ls line ≡ sent settings log line
sent_on-log settings ls log line s = sent_on-stands (meaning_of settings) ls log line s

-- what it put out,
pub outbox_on-log : (settings : Settings) (ls : List LineView) (log : List Entry) (line : ℕ)
    → AreLinesAfter (meaning_of settings) ls (pasts_of log) → outbox_on ls line ≡ posts settings log (Line line)
outbox_on-log settings ls log line s = outbox_on-stands (meaning_of settings) ls log line s

-- and which of that is next
pub next_on-log : (settings : Settings) (ls : List LineView) (log : List Entry) (line : ℕ)
    → AreLinesAfter (meaning_of settings) ls (pasts_of log) → IsLiftedSo ls log
    → next_on ls line ≡ slice_get (posts settings log (Line line)) (length (lifted log (Line line)))
next_on-log settings ls log line s so = next_on-lifted (meaning_of settings) ls log line s so

-- of a step that is not refused no reason to refuse it holds
abbrev pub reason_of : List (Bool × StepFault) → Option StepFault
reason_of rs = option_map (λ (r : Bool × StepFault). r.1) (find (λ (r : Bool × StepFault). r.0) rs)

pub no_reason : (rs : List (Bool × StepFault)) → reason_of rs ≡ None → Each (λ (r : Bool × StepFault). r.0 ≡ false) rs
no_reason [] none = tt
no_reason (r ∷ rs) none = by (no_reason rs) r.0 refl none
  where
    by : (reason_of rs ≡ None → Each (λ (x : Bool × StepFault). x.0 ≡ false) rs) → (b : Bool) → r.0 ≡ b
        → option_map (λ (x : Bool × StepFault). x.1) (if b then Some r else find (λ (x : Bool × StepFault). x.0) rs)
        ≡ None
        → Each (λ (x : Bool × StepFault). x.0 ≡ false) (r ∷ rs)
    by later true is found = absurd cc
    by later false is found = (is, later found)

-- a line that is open, one that is being dialled, and one that is not closed
open_is : (state : Option LineState) → not (is_open state) ≡ false → state ≡ Some at.Open
open_is (Some at.Open) h = refl
open_is (Some (at.Dialling peer)) h = absurd (false≢true (sym h))
open_is (Some at.Closed) h = absurd (false≢true (sym h))
open_is None h = absurd (false≢true (sym h))

dialling_is : (state : Option LineState) → not (is_dialling state) ≡ false
    → (peer : ℕ) × (state ≡ Some (at.Dialling peer))
dialling_is (Some (at.Dialling peer)) h = (peer, refl)
dialling_is (Some at.Open) h = absurd (false≢true (sym h))
dialling_is (Some at.Closed) h = absurd (false≢true (sym h))
dialling_is None h = absurd (false≢true (sym h))

unclosed_is : (state : Option LineState) → (not (is_open state) && not (is_dialling state)) ≡ false
    → state ≡ Some at.Closed → ⊥
unclosed_is state h closed = false≢true (sym h ∙ ap (λ x. not (is_open x) && not (is_dialling x)) closed)

-- What is not refused may come to each line.
pub may_come-taken : (settings : Settings) (log : List Entry) (paused : List Bool) (step : Step) (item : Option Item)
    (handled : Option Handled)
    → refusal settings log paused step ≡ None → EachMayCome (meaning_of settings) log (entry_of step item handled)
may_come-taken settings log paused Joined item handled could =
    may_come-quiet (meaning_of settings) log (entry_of Joined item handled) (λ line. refl)
may_come-taken settings log paused (Dialled line) item handled could =
    let none = no_reason (reasons settings paused log (Dialled line)) could in
    let dialling = dialling_is (line_state settings log line) none.1.1.0 in
    may_come-dialled (meaning_of settings) log line dialling.0 item handled dialling.1
may_come-taken settings log paused (Came line piece) item handled could =
    let none = no_reason (reasons settings paused log (Came line piece)) could in
    may_come-came (meaning_of settings) log line piece item handled (open_is (line_state settings log line) none.1.0)
may_come-taken settings log paused (Lost line) item handled could =
    let none = no_reason (reasons settings paused log (Lost line)) could in
    may_come-lost (meaning_of settings) log line item handled (unclosed_is (line_state settings log line) none.1.0)
may_come-taken settings log paused (Told desk key told) item handled could =
    may_come-quiet (meaning_of settings) log (entry_of (Told desk key told) item handled) (λ line. refl)
may_come-taken settings log paused (Fired machine generation) item handled could =
    may_come-quiet (meaning_of settings) log (entry_of (Fired machine generation) item handled) (λ line. refl)
may_come-taken settings log paused (Lift source) item handled could =
    may_come-quiet (meaning_of settings) log (entry_of (Lift source) item handled) (λ line. refl)
may_come-taken settings log paused (Drop source) None handled could =
    may_come-quiet (meaning_of settings) log (entry_of (Drop source) None handled) (λ line. refl)
may_come-taken settings log paused (Drop source) (Some item) handled could =
    may_come-dropped (meaning_of settings) log source item handled
may_come-taken settings log paused (Work shard) item handled could =
    may_come-quiet (meaning_of settings) log (entry_of (Work shard) item handled) (λ line. refl)

-- So what each line put out stays, and goes on behind, with one more entry whose step is not refused.
pub posts-go_on : (settings : Settings) (ls : List LineView) (log : List Entry) (paused : List Bool) (e : Entry)
    → AreLinesAfter (meaning_of settings) ls (pasts_of log) → refusal settings log paused e.step ≡ None
    → (line : ℕ) → IsFront (posts settings log (Line line)) (posts settings (log ++ e ∷ []) (Line line))
posts-go_on settings ls log paused e s could =
    line_posts-go_on (meaning_of settings) ls log e s (may_come-taken settings log paused e.step e.item e.handled could)
