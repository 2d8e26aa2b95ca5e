-- Deeds on a line: a message or a Close, and the end of its dial.
use Rattle.std.proofs.Common.{◌≡◌, ℕ, Bool, true, false, List, [], ◌∷◌, ◌++◌, refl, sym, ap, subst, ◌∙◌}
use Rattle.std.specs.Prelude.{◌==◌, if◌then◌else◌}
use Rattle.std.proofs.lemmas.List.{append-nil}
use Rattle.base_codes.specs.DeedCodes.{number_of}
use Rattle.base_codes.specs.declared.deed_code.DeedCode.TheVariants.{Close}
use Rattle.bench_item.specs.declared.item.LineItem.{LineItem}
use Rattle.bench_item.specs.declared.line_state.LineState.{LineState}
use Rattle.bench_item.specs.declared.line_state.LineState.TheVariants as state
use Rattle.bench_item.specs.declared.opening.Opening.{Opening}
use Rattle.bench_item.specs.Lines.{LineStep, Delivered, Undialled, closes, is_acknowledgement, is_dial, standing, sent_open}
use Rattle.bench_line.specs.Line.{LineView, Keeps, Stands, delivered, undialled, state_behind, is_shut}
use Rattle.bench_line.specs.Talk.{Meaning, is_loss, rules_of}
use Rattle.bench_line.proofs.AliveLemmas.{IsQuiet, keeps_same, closed_is, stream_of-quiet, any-quiet, posts_of-quiet}
use Rattle.bench_line.proofs.PastLemmas as past

-- a deed on a closed line
quiet_closed : (m : Meaning) (line : ℕ) (l : LineView) (opening : Opening) (happened : List LineStep) (step : LineStep) → Stands m line l opening happened → IsQuiet step → l.state ≡ state.Closed
    → Stands m line l opening (happened ++ step ∷ [])
quiet_closed m line l opening happened step s q c =
    let closed = closed_is (rules_of m line) opening happened l.state s.state c in
    record {
      can_come = past.each_can_come-snoc (rules_of m line) opening [] happened step s.can_come (q.can_come (rules_of m line) opening happened);
      opened = s.opened;
      state = c ∙ sym (past.state_stays (rules_of m line) opening happened step closed);
      outbox = s.outbox ∙ sym (posts_of-quiet m line opening happened step q);
      lifted = s.lifted;
      sent = s.sent ∙ sym (past.sent_closed-snoc (rules_of m line) m.octets_of opening happened step closed);
      keeps = subst (Keeps m line l opening (happened ++ step ∷ [])) (sym c) tt;
    }

-- a deed on a line that is not closed
quiet_going : (m : Meaning) (line : ℕ) (l : LineView) (opening : Opening) (happened : List LineStep) (step : LineStep) → Stands m line l opening happened → IsQuiet step → (l.state ≡ state.Closed → ⊥)
    → (b : Bool) → closes (rules_of m line) opening happened step ≡ b
    → Stands m line (record l { state = (if b then state.Closed else l.state); sent = l.sent ++ sent_open (rules_of m line) m.octets_of opening happened step }) opening (happened ++ step ∷ [])
quiet_going m line l opening happened step s q going b e =
    let rules = rules_of m line in
    let now = past.standing_is rules opening happened l.state s.state going in
    record {
      can_come = past.each_can_come-snoc (rules_of m line) opening [] happened step s.can_come (q.can_come (rules_of m line) opening happened);
      opened = s.opened;
      state = ap (λ (x : LineState). if b then state.Closed else x) (sym now.stands ∙ sym (past.standing-snoc opening happened step q.no_acknowledgement))
          ∙ ap (λ (c : Bool). if c then state.Closed else standing opening (happened ++ step ∷ [])) (sym e)
          ∙ sym (past.state_behind rules opening happened step now.unclosed);
      outbox = s.outbox ∙ sym (posts_of-quiet m line opening happened step q);
      lifted = s.lifted;
      sent = ap (λ (xs : List ℕ). xs ++ sent_open rules m.octets_of opening happened step) s.sent ∙ sym (past.sent_open-snoc rules m.octets_of opening happened step now.unclosed);
      keeps = by b;
    }
  where
    new : Bool → LineView
    new c = record l { state = (if c then state.Closed else l.state); sent = l.sent ++ sent_open (rules_of m line) m.octets_of opening happened step }

    by : (c : Bool) → Keeps m line (new c) opening (happened ++ step ∷ []) (if c then state.Closed else l.state)
    by true = tt
    by false = keeps_same m line l (new false) opening happened (happened ++ step ∷ []) l.state s.keeps refl refl (stream_of-quiet happened step q.no_octets) (any-quiet is_loss happened step q.no_loss) (any-quiet is_acknowledgement happened step q.no_acknowledgement)

is_shut-true : (x : LineState) → is_shut x ≡ true → x ≡ state.Closed
is_shut-true state.Closed e = refl
is_shut-true state.Open e = absurd cc
is_shut-true (state.Dialling peer) e = absurd cc

is_shut-false : (x : LineState) → is_shut x ≡ false → x ≡ state.Closed → ⊥
is_shut-false x e c = let a = sym e ∙ ap is_shut c in absurd cc

-- A line stands for a deed that is dropped there.
pub delivers : (m : Meaning) (line : ℕ) (l : LineView) (opening : Opening) (happened : List LineStep) (item : LineItem) → Stands m line l opening happened → Stands m line (delivered m item l) opening (happened ++ Delivered item ∷ [])
delivers m line l opening happened item s = by (is_shut l.state) refl
  where
    quiet : IsQuiet (Delivered item)
    quiet = record { no_acknowledgement = refl; no_loss = refl; no_octets = refl; can_come = λ rules x before. tt }

    new : LineView
    new = record l { state = state_behind item l.state; sent = l.sent ++ m.octets_of item }

    by : (b : Bool) → is_shut l.state ≡ b → Stands m line (if b then l else new) opening (happened ++ Delivered item ∷ [])
    by true e = quiet_closed m line l opening happened (Delivered item) s quiet (is_shut-true l.state e)
    by false e = quiet_going m line l opening happened (Delivered item) s quiet (is_shut-false l.state e) (item.deed.code == number_of Close) refl

-- It stands for the end of a dial, which closes the line that the dial opened.
pub undials : (m : Meaning) (line : ℕ) (l : LineView) (opening : Opening) (happened : List LineStep) (peer generation : ℕ) → Stands m line l opening happened → Stands m line (undialled peer generation l) opening (happened ++ Undialled peer generation ∷ [])
undials m line l opening happened peer generation s = by (is_shut l.state) refl (is_dial peer generation l.opening) refl
  where
    step : LineStep
    step = Undialled peer generation

    quiet : IsQuiet (Undialled peer generation)
    quiet = record { no_acknowledgement = refl; no_loss = refl; no_octets = refl; can_come = λ rules x before. tt }

    new : LineState → List ℕ → LineView
    new x sent = record l { state = x; sent = sent }

    goes : (b : Bool) → is_dial peer generation l.opening ≡ b → (l.state ≡ state.Closed → ⊥) → Stands m line (new (if b then state.Closed else l.state) l.sent) opening (happened ++ Undialled peer generation ∷ [])
    goes b e going =
        let is : closes (rules_of m line) opening happened (Undialled peer generation) ≡ b = ap (is_dial peer generation) (sym s.opened) ∙ e in
        subst (λ (xs : List ℕ). Stands m line (new (if b then state.Closed else l.state) xs) opening (happened ++ Undialled peer generation ∷ [])) (append-nil l.sent) (quiet_going m line l opening happened (Undialled peer generation) s quiet going b is)

    by : (shut : Bool) → is_shut l.state ≡ shut → (b : Bool) → is_dial peer generation l.opening ≡ b → Stands m line (if b then new state.Closed l.sent else l) opening (happened ++ Undialled peer generation ∷ [])
    by true c true e =
        let shut = is_shut-true l.state c in
        subst (λ (x : LineState). Stands m line (new x l.sent) opening (happened ++ Undialled peer generation ∷ [])) shut (quiet_closed m line l opening happened (Undialled peer generation) s quiet shut)
    by true c false e = quiet_closed m line l opening happened (Undialled peer generation) s quiet (is_shut-true l.state c)
    by false c true e = goes true e (is_shut-false l.state c)
    by false c false e = goes false e (is_shut-false l.state c)
