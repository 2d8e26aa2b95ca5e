-- A line that is not closed, behind steps that bring no octets.
use Rattle.std.proofs.Common.{◌≡◌, ℕ, Bool, true, false, List, [], ◌∷◌, ◌++◌, None, refl, sym, ap, subst, ◌∙◌}
use Rattle.std.specs.Prelude.{◌||◌, if◌then◌else◌}
use Rattle.std.specs.List.{list_any}
use Rattle.std.proofs.lemmas.List.{append-nil}
use Rattle.dia_frame.specs.Framer.{FramerState, Shows}
use Rattle.bench_item.specs.declared.line_state.LineState.{LineState}
use Rattle.bench_item.specs.declared.line_state.LineState.TheVariants as state
use Rattle.bench_item.specs.declared.opening.Opening.{Opening}
use Rattle.bench_item.specs.declared.opening.Opening.TheVariants.{Accepted, Dialled}
use Rattle.bench_item.specs.Lines.{LineStep, LineRules, is_acknowledgement, is_closed, standing, state_of}
use Rattle.bench_line.specs.declared.limit.TheConstants.{MAX_MESSAGE}
use Rattle.bench_line.specs.Line.{CanCome, LineView, IsAlive, Keeps, found}
use Rattle.bench_line.specs.Messages.{messages, fault_in}
use Rattle.bench_line.specs.Talk.{Meaning, after_turns, at_first, turns, turns_by, does_close, octets_in, dial_posts, posts_by, posts_of, is_loss, stream_of}
use Rattle.bench_line.proofs.MessageLemmas.{messages-nil, rest_of-nil}
use Rattle.bench_line.proofs.PastLemmas.{or-false, list_any-snoc, stream_of-snoc}

-- It stays alive where its octets and its loss stay as they are.
pub alive_same : (m : Meaning) (line : ℕ) (l new : LineView) (opening : Opening) (happened after : List LineStep) → IsAlive m line l opening happened
    → new.framer ≡ l.framer → found line new ≡ found line l → stream_of after ≡ stream_of happened → list_any is_loss after ≡ list_any is_loss happened
    → IsAlive m line new opening after
alive_same m line l new opening happened after a f g s n = record {
  shows = subst (λ (x : FramerState). Shows x MAX_MESSAGE (messages (stream_of after)) (stream_of after) None) (sym f) (subst (λ (x : List ℕ). Shows l.framer MAX_MESSAGE (messages x) x None) (sym s) a.shows);
  heard = ap (λ (x : FramerState). x.waiting) f ∙ a.heard;
  greeted = g ∙ a.greeted ∙ ap (λ (x : List ℕ). after_turns (at_first line opening) (turns m line opening x)) (sym s);
  unclosed = ap (λ (x : List ℕ). list_any does_close (turns m line opening x)) s ∙ a.unclosed;
  there = n ∙ a.there;
}

-- a line that is not closed is alive
pub alive_of : (m : Meaning) (line : ℕ) (l : LineView) (opening : Opening) (happened : List LineStep) (s : LineState) → Keeps m line l opening happened s → (s ≡ state.Closed → ⊥) → IsAlive m line l opening happened
alive_of m line l opening happened state.Open k other = k
alive_of m line l opening happened (state.Dialling peer) k other = k.0
alive_of m line l opening happened state.Closed k other = absurd (other refl)

-- what is kept of it stays
pub keeps_same : (m : Meaning) (line : ℕ) (l new : LineView) (opening : Opening) (happened after : List LineStep) (s : LineState) → Keeps m line l opening happened s
    → new.framer ≡ l.framer → found line new ≡ found line l → stream_of after ≡ stream_of happened → list_any is_loss after ≡ list_any is_loss happened
    → list_any is_acknowledgement after ≡ list_any is_acknowledgement happened
    → Keeps m line new opening after s
keeps_same m line l new opening happened after state.Open k f g s n a = alive_same m line l new opening happened after k f g s n
keeps_same m line l new opening happened after (state.Dialling peer) k f g s n a = (alive_same m line l new opening happened after k.0 f g s n, s ∙ k.1, a ∙ k.2)
keeps_same m line l new opening happened after state.Closed k f g s n a = tt

never_closed : (opening : Opening) (happened : List LineStep) → standing opening happened ≡ state.Closed → ⊥
never_closed Accepted happened e = absurd cc
never_closed (Dialled peer generation) happened e = by (list_any is_acknowledgement happened) e
  where
    by : (b : Bool) → (if b then state.Open else state.Dialling peer) ≡ state.Closed → ⊥
    by true e = absurd cc
    by false e = absurd cc

-- a line that stands closed was closed
pub closed_is : (rules : LineRules) (opening : Opening) (happened : List LineStep) (s : LineState) → s ≡ state_of rules opening happened → s ≡ state.Closed → is_closed rules opening happened ≡ true
closed_is rules opening happened s e c = by (is_closed rules opening happened) (sym e ∙ c)
  where
    by : (b : Bool) → (if b then state.Closed else standing opening happened) ≡ state.Closed → b ≡ true
    by true e = refl
    by false e = absurd (never_closed opening happened e)

-- nothing is made of no octets
pub turns-nil : (m : Meaning) (line : ℕ) (opening : Opening) → turns m line opening [] ≡ []
unfolding turns
turns-nil m line opening = ap (turns_by m.heard (at_first line opening)) messages-nil

pub fault_in-nil : fault_in [] ≡ None
fault_in-nil = rw rest_of-nil refl

-- before any octets come, a line puts out what its acknowledgement does
pub posts-silent : (m : Meaning) (line : ℕ) (opening : Opening) (acknowledged : Bool) → posts_by m line opening acknowledged false [] ≡ dial_posts m line opening acknowledged
unfolding posts_by
posts-silent m line opening acknowledged = rw (turns-nil m line opening, fault_in-nil) (append-nil (dial_posts m line opening acknowledged ++ []) ∙ append-nil (dial_posts m line opening acknowledged))

-- Of a step that is no acknowledgement, no loss and brings no octets nothing is put out, and it may always come.
pub record IsQuiet (step : LineStep) : Type 0 where
  pub no_acknowledgement : is_acknowledgement step ≡ false
  pub no_loss : is_loss step ≡ false
  pub no_octets : octets_in step ≡ []
  pub can_come : (rules : LineRules) (opening : Opening) (past : List LineStep) → CanCome rules opening past step

pub stream_of-quiet : (happened : List LineStep) (step : LineStep) → octets_in step ≡ [] → stream_of (happened ++ step ∷ []) ≡ stream_of happened
stream_of-quiet happened step q = stream_of-snoc happened step ∙ ap (λ (xs : List ℕ). stream_of happened ++ xs) q ∙ append-nil (stream_of happened)

pub any-quiet : (p : LineStep → Bool) (happened : List LineStep) (step : LineStep) → p step ≡ false → list_any p (happened ++ step ∷ []) ≡ list_any p happened
any-quiet p happened step q = list_any-snoc p happened step ∙ ap (λ (b : Bool). list_any p happened || b) q ∙ or-false (list_any p happened)

pub posts_of-quiet : (m : Meaning) (line : ℕ) (opening : Opening) (happened : List LineStep) (step : LineStep) → IsQuiet step → posts_of m line opening (happened ++ step ∷ []) ≡ posts_of m line opening happened
posts_of-quiet m line opening happened step q =
    ap (λ (b : Bool). posts_by m line opening b (list_any is_loss (happened ++ step ∷ [])) (stream_of (happened ++ step ∷ []))) (any-quiet is_acknowledgement happened step q.no_acknowledgement)
    ∙ ap (λ (b : Bool). posts_by m line opening (list_any is_acknowledgement happened) b (stream_of (happened ++ step ∷ []))) (any-quiet is_loss happened step q.no_loss)
    ∙ ap (posts_by m line opening (list_any is_acknowledgement happened) (list_any is_loss happened)) (stream_of-quiet happened step q.no_octets)
