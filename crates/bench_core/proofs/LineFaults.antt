-- Why a step of a line is refused: by the lines that a world keeps as by its log.
use Rattle.std.proofs.Common.{◌≡◌, ◌-◌, ◌≤◌, ℕ, zero, suc, List, [], ◌∷◌, length, Bool, true, false, Option, Some, None, refl, sym, ◌∙◌, ap, arith}
use Rattle.std.specs.Prelude.{◌&&◌, ◌||◌, not, nat_le, slice_get, if◌then◌else◌}
use Rattle.std.specs.Option.{option_map, option_map_or}
use Rattle.std.proofs.lemmas.Bool.{le-leb, lt-ltb}
use Rattle.std.proofs.lemmas.Bool.Decides.{nat_tests}
use Rattle.std.proofs.lemmas.List.{length-drop}
use Rattle.std.proofs.lemmas.Option.{slice_get_within}
use Rattle.bench_item.specs.declared.entry.Entry.{Entry}
use Rattle.bench_item.specs.declared.item.Item.{Item}
use Rattle.bench_item.specs.declared.limit.TheConstants.{MAX_LINES, MAX_WAITING}
use Rattle.bench_item.specs.declared.line_state.LineState.{LineState}
use Rattle.bench_item.specs.declared.line_state.LineState.TheVariants as at
use Rattle.bench_item.specs.declared.source.Source.TheVariants.{Line}
use Rattle.bench_item.specs.declared.step.Step.TheVariants.{Came, Dialled, Joined, Lost}
use Rattle.bench_item.specs.declared.step.StepFault.{StepFault}
use Rattle.bench_item.specs.declared.step.StepFault.TheVariants.{Closed, Full, Nothing, Unknown}
use Rattle.bench_line.specs.Line.{LineView}
use Rattle.bench_line.specs.Lines as lines
use Rattle.bench_log.specs.Logged.{is_past}
use Rattle.bench_spec.specs.Items.{lifted, outbox, posts}
use Rattle.bench_spec.specs.Lines.{line_state, openings}
use Rattle.bench_spec.specs.Refusal.{is_crowded, is_dialling, is_line, is_log_full, is_open, refusal}
use Rattle.bench_spec.specs.Settings.{Settings}
use Rattle.bench_views.specs.Stored.{IsTied, Stored, meaning_of}
use Rattle.bench_views.proofs.Lifting.{line_at-suc}
use Rattle.bench_views.proofs.LineStands.{length_lines}
use Rattle.bench_views.proofs.LineViews.{outbox_on-log, state_on-log}
use Rattle.bench_core.specs.Faults.{first_of, line_fault_or}

past-none : {X : Type 0} (xs : List X) (k : ℕ) → slice_get xs k ≡ None → length xs ≤ k
past-none [] k e = omega arith
past-none (x ∷ xs) zero e = absurd cc
past-none (x ∷ xs) (suc k) e = omega (arith, past-none xs k e)

not-le : (n k : ℕ) → k ≤ n → nat_le (suc n) k ≡ false
not-le n k less = grind (arith, nat_tests)

-- a line that is not there
absent-line : (settings : Settings) (log : List Entry) (s : Stored) (line : ℕ) → IsTied settings log s → lines.line_at s.lines line ≡ None → is_line log line ≡ false
absent-line settings log s zero tied none = refl
absent-line settings log s (suc n) tied none =
    let past : length (openings log) ≤ n = omega (arith, past-none s.lines n (sym (line_at-suc s.lines n) ∙ none), length_lines (meaning_of settings) s.lines log tied.lines) in
    ap (λ (b : Bool). b && nat_le (suc n) (length (openings log))) (lt-ltb 0 (suc n) (omega arith)) ∙ not-le n (length (openings log)) past

-- a line that is there
there-line : (settings : Settings) (log : List Entry) (s : Stored) (line : ℕ) (l : LineView) → IsTied settings log s → lines.line_at s.lines line ≡ Some l → is_line log line ≡ true
there-line settings log s zero l tied is = absurd cc
there-line settings log s (suc n) l tied is =
    ap (λ (b : Bool). b && nat_le (suc n) (length (openings log))) (lt-ltb 0 (suc n) (omega arith))
    ∙ le-leb (suc n) (length (openings log)) (omega (arith, slice_get_within s.lines n l (sym (line_at-suc s.lines n) ∙ is), length_lines (meaning_of settings) s.lines log tied.lines))

state-line : (settings : Settings) (log : List Entry) (s : Stored) (line : ℕ) (l : LineView) → IsTied settings log s → lines.line_at s.lines line ≡ Some l → line_state settings log line ≡ Some l.state
state-line settings log s line l tied is =
    sym (state_on-log settings s.lines log line tied.lines) ∙ ap (option_map (λ (x : LineView). x.state)) is

crowded-line : (settings : Settings) (log : List Entry) (s : Stored) (line : ℕ) (l : LineView) → IsTied settings log s → lines.line_at s.lines line ≡ Some l
    → is_crowded (outbox settings log (Line line)) ≡ lines.is_crowded l
crowded-line settings log s zero l tied is = absurd cc
crowded-line settings log s (suc n) l tied is =
    let put : posts settings log (Line (suc n)) ≡ l.outbox =
    sym (outbox_on-log settings s.lines log (suc n) tied.lines) ∙ ap (λ (o : Option LineView). option_map_or (λ x. x.outbox) o []) is in
    let off : l.lifted ≡ length (lifted log (Line (suc n))) = tied.lifted_of n l (sym (line_at-suc s.lines n) ∙ is) in
    ap (λ (k : ℕ). nat_le MAX_WAITING k) (length-drop (length (lifted log (Line (suc n)))) (posts settings log (Line (suc n))))
    ∙ ap (λ (xs : List Item). nat_le MAX_WAITING (length xs - length (lifted log (Line (suc n))))) put
    ∙ ap (λ (k : ℕ). nat_le MAX_WAITING (length l.outbox - k)) (sym off)

-- as many wait as may, or the log is full
full-by : (crowded full : Bool) → line_fault_or (if crowded then Some Full else None) full ≡ first_of ((full || crowded, Full) ∷ [])
full-by true true = refl
full-by true false = refl
full-by false true = refl
full-by false false = refl

dialled-by : (l : LineView) (state : LineState) (full crowded : Bool) → lines.is_crowded l ≡ crowded
    → line_fault_or (lines.dialled_refused l state) full
    ≡ first_of ((not true, Unknown) ∷ (not (is_open (Some state)) && not (is_dialling (Some state)), Closed) ∷ (not (is_dialling (Some state)), Nothing) ∷ (full || crowded, Full) ∷ [])
dialled-by l at.Closed full crowded e = refl
dialled-by l at.Open full crowded e = refl
dialled-by l (at.Dialling peer) full crowded e = ap (λ (b : Bool). line_fault_or (if b then Some Full else None) full) e ∙ full-by crowded full

came-by : (l : LineView) (state : LineState) (full crowded : Bool) → lines.is_crowded l ≡ crowded
    → line_fault_or (lines.came_refused l state) full ≡ first_of ((not true, Unknown) ∷ (not (is_open (Some state)), Closed) ∷ (full || crowded, Full) ∷ [])
came-by l at.Closed full crowded e = refl
came-by l at.Open full crowded e = ap (λ (b : Bool). line_fault_or (if b then Some Full else None) full) e ∙ full-by crowded full
came-by l (at.Dialling peer) full crowded e = refl

lost-by : (l : LineView) (state : LineState) (full crowded : Bool) → lines.is_crowded l ≡ crowded
    → line_fault_or (lines.lost_refused l state) full
    ≡ first_of ((not true, Unknown) ∷ (not (is_open (Some state)) && not (is_dialling (Some state)), Closed) ∷ (full || crowded, Full) ∷ [])
lost-by l at.Closed full crowded e = refl
lost-by l at.Open full crowded e = ap (λ (b : Bool). line_fault_or (if b then Some Full else None) full) e ∙ full-by crowded full
lost-by l (at.Dialling peer) full crowded e = ap (λ (b : Bool). line_fault_or (if b then Some Full else None) full) e ∙ full-by crowded full

-- a line's dial is not acknowledged
pub dialled-log : (settings : Settings) (log : List Entry) (paused : List Bool) (s : Stored) (line : ℕ) → IsTied settings log s
    → line_fault_or (lines.dialled_refusal s.lines line) (is_log_full log) ≡ refusal settings log paused (Dialled line)
dialled-log settings log paused s line tied = by (lines.line_at s.lines line) refl
  where
    by : (o : Option LineView) → lines.line_at s.lines line ≡ o → line_fault_or (lines.refusal_by (λ l. lines.dialled_refused l l.state) o) (is_log_full log) ≡ refusal settings log paused (Dialled line)
    by None e = rw (absent-line settings log s line tied e) refl
    by (Some l) e = rw (there-line settings log s line l tied e, state-line settings log s line l tied e, crowded-line settings log s line l tied e) (dialled-by l l.state (is_log_full log) (lines.is_crowded l) refl)

-- no octets come on it
pub came-log : (settings : Settings) (log : List Entry) (paused : List Bool) (s : Stored) (line : ℕ) (piece : List ℕ) → IsTied settings log s
    → line_fault_or (lines.came_refusal s.lines line) (is_log_full log) ≡ refusal settings log paused (Came line piece)
came-log settings log paused s line piece tied = by (lines.line_at s.lines line) refl
  where
    by : (o : Option LineView) → lines.line_at s.lines line ≡ o → line_fault_or (lines.refusal_by (λ l. lines.came_refused l l.state) o) (is_log_full log) ≡ refusal settings log paused (Came line piece)
    by None e = rw (absent-line settings log s line tied e) refl
    by (Some l) e = rw (there-line settings log s line l tied e, state-line settings log s line l tied e, crowded-line settings log s line l tied e) (came-by l l.state (is_log_full log) (lines.is_crowded l) refl)

-- it is not lost
pub lost-log : (settings : Settings) (log : List Entry) (paused : List Bool) (s : Stored) (line : ℕ) → IsTied settings log s
    → line_fault_or (lines.lost_refusal s.lines line) (is_log_full log) ≡ refusal settings log paused (Lost line)
lost-log settings log paused s line tied = by (lines.line_at s.lines line) refl
  where
    by : (o : Option LineView) → lines.line_at s.lines line ≡ o → line_fault_or (lines.refusal_by (λ l. lines.lost_refused l l.state) o) (is_log_full log) ≡ refusal settings log paused (Lost line)
    by None e = rw (absent-line settings log s line tied e) refl
    by (Some l) e = rw (there-line settings log s line l tied e, state-line settings log s line l tied e, crowded-line settings log s line l tied e) (lost-by l l.state (is_log_full log) (lines.is_crowded l) refl)

-- two reasons of one fault
pub joined-by : (a b : Bool) (r rest : Option StepFault) → rest ≡ (if b then Some Full else None) → r ≡ (if a then Some Full else rest) → r ≡ first_of ((a || b, Full) ∷ [])
joined-by true b r rest e f = f
joined-by false true r rest e f = f ∙ e
joined-by false false r rest e f = f ∙ e

-- three reasons, one behind the other
nested : (a b f : Bool) (A B F : StepFault) → (if a then Some A else (if b then Some B else (if f then Some F else None))) ≡ first_of ((a, A) ∷ (b, B) ∷ (f, F) ∷ [])
nested true b f A B F = refl
nested false true f A B F = refl
nested false false true A B F = refl
nested false false false A B F = refl

pub three : (a b f a' b' f' : Bool) (A B F : StepFault) (r1 r2 r3 : Option StepFault) → r3 ≡ (if f then Some F else None) → r2 ≡ (if b then Some B else r3) → r1 ≡ (if a then Some A else r2)
    → a ≡ a' → b ≡ b' → f ≡ f' → r1 ≡ first_of ((a', A) ∷ (b', B) ∷ (f', F) ∷ [])
three a b f a' b' f' A B F r1 r2 r3 e3 e2 e1 ea eb ef =
    let P : Bool → Bool → Bool → Option StepFault = λ x y z. if x then Some A else (if y then Some B else (if z then Some F else None)) in
    e1 ∙ ap (λ (r : Option StepFault). if a then Some A else r) (e2 ∙ ap (λ (r : Option StepFault). if b then Some B else r) e3)
    ∙ ap (λ (x : Bool). P x b f) ea ∙ ap (λ (y : Bool). P a' y f) eb ∙ ap (λ (z : Bool). P a' b' z) ef ∙ nested a' b' f' A B F

-- none is accepted
pub joined-log : (settings : Settings) (log : List Entry) (paused : List Bool) (s : Stored) → IsTied settings log s
    → first_of ((is_log_full log || nat_le MAX_LINES (length s.lines), Full) ∷ []) ≡ refusal settings log paused Joined
joined-log settings log paused s tied =
    ap (λ (n : ℕ). first_of ((is_log_full log || nat_le MAX_LINES n, Full) ∷ [])) (length_lines (meaning_of settings) s.lines log tied.lines)

-- a log takes no more entries
pub full-log : (log : List Entry) → is_past log 1 ≡ is_log_full log
full-log log = grind (arith, nat_tests)
