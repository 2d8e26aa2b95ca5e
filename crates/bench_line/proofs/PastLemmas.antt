-- Where a line stands and what it has sent, with one step more.
use Rattle.std.proofs.Common.{◌≡◌, ℕ, Bool, true, false, List, [], ◌∷◌, ◌++◌, refl, sym, ap, subst, ◌∙◌, append_assoc}
use Rattle.std.specs.Prelude.{◌||◌, if◌then◌else◌}
use Rattle.std.specs.List.{list_any}
use Rattle.std.proofs.lemmas.List.{append-nil}
use Rattle.std.proofs.lemmas.List.Concat.{flat_map-append}
use Rattle.std.proofs.lemmas.List.Folds.{list_any-append}
use Rattle.bench_item.specs.Past.{any_after, flat_map_after}
use Rattle.bench_item.specs.declared.item.LineItem.{LineItem}
use Rattle.bench_item.specs.declared.line_state.LineState.{LineState}
use Rattle.bench_item.specs.declared.line_state.LineState.TheVariants as at
use Rattle.bench_item.specs.declared.opening.Opening.{Opening}
use Rattle.bench_item.specs.declared.opening.Opening.TheVariants.{Accepted, Dialled}
use Rattle.bench_item.specs.Lines.{LineStep, LineRules, closes, is_closed, is_acknowledgement, standing, state_of, sent_open, sent_at, sent_of}
use Rattle.bench_line.specs.Line.{CanCome, EachCanCome}
use Rattle.bench_line.specs.Talk.{octets_in, stream_of}

pub or-false : (b : Bool) → (b || false) ≡ b
or-false true = refl
or-false false = refl

pub any_after-snoc : {X : Type 0} (test : List X → X → Bool) (past xs : List X) (x : X) → any_after test past (xs ++ x ∷ []) ≡ (any_after test past xs || test (past ++ xs) x)
any_after-snoc test past [] x = or-false (test past x) ∙ ap (λ ys. test ys x) (sym (append-nil past))
any_after-snoc test past (y ∷ xs) x =
    ap (λ b. test past y || b) (any_after-snoc test (past ++ y ∷ []) xs x ∙ ap (λ ys. any_after test (past ++ y ∷ []) xs || test ys x) (append_assoc past (y ∷ []) xs))
    ∙ or_assoc (test past y) (any_after test (past ++ y ∷ []) xs) (test (past ++ (y ∷ xs)) x)
  where
    or_assoc : (a b c : Bool) → (a || (b || c)) ≡ ((a || b) || c)
    or_assoc true b c = refl
    or_assoc false b c = refl

pub flat_map_after-snoc : {X Y : Type 0} (give : List X → X → List Y) (past xs : List X) (x : X) → flat_map_after give past (xs ++ x ∷ []) ≡ flat_map_after give past xs ++ give (past ++ xs) x
flat_map_after-snoc give past [] x = append-nil (give past x) ∙ ap (λ ys. give ys x) (sym (append-nil past))
flat_map_after-snoc give past (y ∷ xs) x =
    ap (λ zs. give past y ++ zs) (flat_map_after-snoc give (past ++ y ∷ []) xs x ∙ ap (λ ys. flat_map_after give (past ++ y ∷ []) xs ++ give ys x) (append_assoc past (y ∷ []) xs))
    ∙ sym (append_assoc (give past y) (flat_map_after give (past ++ y ∷ []) xs) (give (past ++ (y ∷ xs)) x))

pub is_closed-snoc : (rules : LineRules) (opening : Opening) (happened : List LineStep) (step : LineStep) → is_closed rules opening (happened ++ step ∷ []) ≡ (is_closed rules opening happened || closes rules opening happened step)
is_closed-snoc rules opening happened step = any_after-snoc (closes rules opening) [] happened step

pub sent_of-snoc : (rules : LineRules) (octets : LineItem → List ℕ) (opening : Opening) (happened : List LineStep) (step : LineStep)
    → sent_of rules octets opening (happened ++ step ∷ []) ≡ sent_of rules octets opening happened ++ sent_at rules octets opening happened step
sent_of-snoc rules octets opening happened step = flat_map_after-snoc (sent_at rules octets opening) [] happened step

pub list_any-snoc : {X : Type 0} (p : X → Bool) (xs : List X) (x : X) → list_any p (xs ++ x ∷ []) ≡ (list_any p xs || p x)
list_any-snoc p xs x = list_any-append p xs (x ∷ []) ∙ ap (λ b. list_any p xs || b) (or-false (p x))

pub stream_of-snoc : (happened : List LineStep) (step : LineStep) → stream_of (happened ++ step ∷ []) ≡ stream_of happened ++ octets_in step
stream_of-snoc happened step = flat_map-append octets_in happened (step ∷ []) ∙ ap (λ ys. stream_of happened ++ ys) (append-nil (octets_in step))

-- A line that is open or being dialled is not closed.
pub record IsStanding (rules : LineRules) (opening : Opening) (happened : List LineStep) (state : LineState) : Type 0 where
  pub unclosed : is_closed rules opening happened ≡ false
  pub stands : standing opening happened ≡ state

not_closed : (b : Bool) (s state : LineState) → state ≡ (if b then at.Closed else s) → (state ≡ at.Closed → ⊥) → (b ≡ false) × (s ≡ state)
not_closed true s state e other = absurd (other e)
not_closed false s state e other = (refl, sym e)

pub standing_is : (rules : LineRules) (opening : Opening) (happened : List LineStep) (state : LineState) → state ≡ state_of rules opening happened → (state ≡ at.Closed → ⊥) → IsStanding rules opening happened state
standing_is rules opening happened state e other =
    let p = not_closed (is_closed rules opening happened) (standing opening happened) state e other in
    record { unclosed = p.0; stands = p.1 }

-- where a line stands behind a step that finds it so
pub state_behind : (rules : LineRules) (opening : Opening) (happened : List LineStep) (step : LineStep) → is_closed rules opening happened ≡ false
    → state_of rules opening (happened ++ step ∷ []) ≡ (if closes rules opening happened step then at.Closed else standing opening (happened ++ step ∷ []))
state_behind rules opening happened step unclosed =
    let e : is_closed rules opening (happened ++ step ∷ []) ≡ closes rules opening happened step = is_closed-snoc rules opening happened step ∙ ap (λ b. b || closes rules opening happened step) unclosed in
    ap (λ b. if b then at.Closed else standing opening (happened ++ step ∷ [])) e

-- a closed line stays closed
pub state_stays : (rules : LineRules) (opening : Opening) (happened : List LineStep) (step : LineStep) → is_closed rules opening happened ≡ true → state_of rules opening (happened ++ step ∷ []) ≡ at.Closed
state_stays rules opening happened step closed =
    let e : is_closed rules opening (happened ++ step ∷ []) ≡ true = is_closed-snoc rules opening happened step ∙ ap (λ b. b || closes rules opening happened step) closed in
    ap (λ b. if b then at.Closed else standing opening (happened ++ step ∷ [])) e

-- a step that is no acknowledgement leaves where a line would stand
pub standing-snoc : (opening : Opening) (happened : List LineStep) (step : LineStep) → is_acknowledgement step ≡ false → standing opening (happened ++ step ∷ []) ≡ standing opening happened
standing-snoc Accepted happened step e = refl
standing-snoc (Dialled peer generation) happened step e =
    ap (λ b. if b then at.Open else at.Dialling peer) (list_any-snoc is_acknowledgement happened step ∙ ap (λ b. list_any is_acknowledgement happened || b) e ∙ or-false (list_any is_acknowledgement happened))

-- what an open line sends
pub sent_open-snoc : (rules : LineRules) (octets : LineItem → List ℕ) (opening : Opening) (happened : List LineStep) (step : LineStep) → is_closed rules opening happened ≡ false
    → sent_of rules octets opening (happened ++ step ∷ []) ≡ sent_of rules octets opening happened ++ sent_open rules octets opening happened step
sent_open-snoc rules octets opening happened step unclosed =
    sent_of-snoc rules octets opening happened step
    ∙ ap (λ b. sent_of rules octets opening happened ++ (if b then [] else sent_open rules octets opening happened step)) unclosed

-- a closed line sends nothing
pub sent_closed-snoc : (rules : LineRules) (octets : LineItem → List ℕ) (opening : Opening) (happened : List LineStep) (step : LineStep) → is_closed rules opening happened ≡ true
    → sent_of rules octets opening (happened ++ step ∷ []) ≡ sent_of rules octets opening happened
sent_closed-snoc rules octets opening happened step closed =
    sent_of-snoc rules octets opening happened step
    ∙ ap (λ b. sent_of rules octets opening happened ++ (if b then [] else sent_open rules octets opening happened step)) closed
    ∙ append-nil (sent_of rules octets opening happened)

-- one step more that may come
pub each_can_come-snoc : (rules : LineRules) (opening : Opening) (past steps : List LineStep) (step : LineStep) → EachCanCome rules opening past steps → CanCome rules opening (past ++ steps) step → EachCanCome rules opening past (steps ++ step ∷ [])
each_can_come-snoc rules opening past [] step h c = (subst (λ (xs : List LineStep). CanCome rules opening xs step) (append-nil past) c, tt)
each_can_come-snoc rules opening past (x ∷ steps) step h c = (h.0, each_can_come-snoc rules opening (past ++ x ∷ []) steps step h.1 (subst (λ (xs : List LineStep). CanCome rules opening xs step) (sym (append_assoc past (x ∷ []) steps)) c))
