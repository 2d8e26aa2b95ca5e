-- A line at its opening, its acknowledgement and its loss.
use Rattle.std.proofs.Common.{◌≡◌, ℕ, Bool, true, false, List, [], ◌∷◌, ◌++◌, None, refl, sym, ap, subst, ◌∙◌, arith, length-append}
use Rattle.std.specs.Prelude.{◌||◌, option_to_list, if◌then◌else◌}
use Rattle.std.specs.List.{list_any}
use Rattle.std.proofs.lemmas.List.{append-nil}
use Rattle.dia_frame.specs.Frames.{Frames}
use Rattle.bench_item.specs.declared.hears.Heard.{Heard}
use Rattle.bench_item.specs.declared.hears.LineEvent.{LineEvent}
use Rattle.bench_item.specs.declared.hears.LineEvent.TheVariants as event
use Rattle.bench_item.specs.declared.item.Item.{Item}
use Rattle.bench_item.specs.declared.line_state.LineState.{LineState}
use Rattle.bench_item.specs.declared.line_state.LineState.TheVariants as state
use Rattle.bench_item.specs.declared.opening.Opening.{Opening}
use Rattle.bench_item.specs.declared.opening.Opening.TheVariants.{Accepted, Dialled}
use Rattle.bench_item.specs.Lines.{LineStep, Acknowledged, Gone, is_acknowledgement, standing, sent_of}
use Rattle.bench_line.specs.declared.limit.TheConstants.{MAX_MESSAGE}
use Rattle.bench_line.specs.Line.{LineView, IsAlive, Keeps, Stands, found, new_line, acknowledged, lost, loss_of}
use Rattle.bench_line.specs.Messages.{messages, rest_of, fault_in}
use Rattle.bench_line.specs.Talk.{Meaning, after_turns, at_first, turns, does_close, dial_posts, end_posts, posts_in, posts_by, posts_of, end_event, is_loss, rules_of, stream_of}
use Rattle.bench_line.proofs.MessageLemmas.{frames_are, rest_of-nil}
use Rattle.bench_line.proofs.PastLemmas as past
use Rattle.bench_line.proofs.AliveLemmas.{alive_same, alive_of, turns-nil, posts-silent, stream_of-quiet, any-quiet}
use Rattle.bench_line.proofs.ReceiveLemmas.{alive-fault, open_end, end_none}

b_or_true : (b : Bool) → (b || true) ≡ true
b_or_true true = refl
b_or_true false = refl

dialling : (opening : Opening) (happened : List LineStep) (peer : ℕ) → standing opening happened ≡ state.Dialling peer → end_event opening (list_any is_acknowledgement happened) ≡ event.Refused
dialling Accepted happened peer e = absurd cc
dialling (Dialled p generation) happened peer e = by (list_any is_acknowledgement happened) e
  where
    by : (b : Bool) → (if b then state.Open else state.Dialling p) ≡ state.Dialling peer → (if b then event.Disconnected else event.Refused) ≡ event.Refused
    by true e = absurd cc
    by false e = refl

standing-acknowledged : (opening : Opening) (happened : List LineStep) → standing opening (happened ++ Acknowledged ∷ []) ≡ state.Open
standing-acknowledged Accepted happened = refl
standing-acknowledged (Dialled peer generation) happened =
    ap (λ (b : Bool). if b then state.Open else state.Dialling peer) (past.list_any-snoc is_acknowledgement happened Acknowledged ∙ b_or_true (list_any is_acknowledgement happened))

-- A line that is being dialled stands for its acknowledgement.
pub acknowledges : (m : Meaning) (line : ℕ) (l : LineView) (opening : Opening) (happened : List LineStep) (peer : ℕ) → Stands m line l opening happened → l.state ≡ state.Dialling peer
    → Stands m line (acknowledged m line l) opening (happened ++ Acknowledged ∷ [])
acknowledges m line l opening happened peer s d =
    let step = Acknowledged in
    let after = happened ++ Acknowledged ∷ [] in
    let rules = rules_of m line in
    let first = at_first line opening in
    let k : Keeps m line l opening happened (state.Dialling peer) = subst (Keeps m line l opening happened) d s.keeps in
    let a = k.0 in
    let now = past.standing_is rules opening happened l.state s.state (λ c. let x = sym d ∙ c in absurd cc) in
    let stream : stream_of after ≡ stream_of happened = stream_of-quiet happened Acknowledged refl in
    let silent : stream_of after ≡ [] = stream ∙ k.1 in
    let gone : list_any is_loss after ≡ list_any is_loss happened = any-quiet is_loss happened Acknowledged refl in
    let at : found line l ≡ first = a.greeted ∙ ap (λ (x : List ℕ). after_turns first (turns m line opening x)) k.1 ∙ ap (after_turns first) (turns-nil m line opening) in
    let before : posts_of m line opening happened ≡ [] =
    ap (λ (b : Bool). posts_by m line opening b (list_any is_loss happened) (stream_of happened)) k.2
    ∙ ap (λ (b : Bool). posts_by m line opening false b (stream_of happened)) a.there ∙ ap (posts_by m line opening false false) k.1 ∙ posts-silent m line opening false in
    let behind : posts_of m line opening after ≡ option_to_list (m.turned first event.Acknowledged) =
    ap (λ (b : Bool). posts_by m line opening b (list_any is_loss after) (stream_of after)) (past.list_any-snoc is_acknowledgement happened Acknowledged ∙ b_or_true (list_any is_acknowledgement happened))
    ∙ ap (λ (b : Bool). posts_by m line opening true b (stream_of after)) (gone ∙ a.there) ∙ ap (posts_by m line opening true false) silent ∙ posts-silent m line opening true in
    record {
      can_come = past.each_can_come-snoc rules opening [] happened Acknowledged s.can_come (peer, sym s.state ∙ d);
      opened = s.opened;
      state = sym (past.state_behind rules opening happened Acknowledged now.unclosed ∙ standing-acknowledged opening happened);
      outbox = ap (λ (xs : List Item). xs ++ option_to_list (m.turned (found line l) event.Acknowledged)) (s.outbox ∙ before) ∙ ap (λ (x : Heard). option_to_list (m.turned x event.Acknowledged)) at ∙ sym behind;
      lifted = omega (arith, s.lifted, length-append l.outbox (option_to_list (m.turned (found line l) event.Acknowledged)));
      sent = s.sent ∙ sym (append-nil (sent_of rules m.octets_of opening happened)) ∙ sym (past.sent_open-snoc rules m.octets_of opening happened Acknowledged now.unclosed);
      keeps = alive_same m line l (acknowledged m line l) opening happened after a refl refl stream gone;
    }

-- what a loss adds to the posts
lost_posts : (m : Meaning) (line : ℕ) (opening : Opening) (ack : Bool) (stream : List ℕ) (at : Heard) (what : LineEvent) → list_any does_close (turns m line opening stream) ≡ false → fault_in stream ≡ None
    → after_turns (at_first line opening) (turns m line opening stream) ≡ at → end_event opening ack ≡ what
    → posts_by m line opening ack true stream ≡ posts_by m line opening ack false stream ++ option_to_list (m.turned at what)
unfolding posts_by
lost_posts m line opening ack stream at what c f a e =
    let front = dial_posts m line opening ack ++ posts_in (turns m line opening stream) in
    let last : end_posts m line opening ack true stream ≡ option_to_list (m.turned at what) = rw (c, a, e) refl in
    ap (λ (xs : List Item). front ++ xs) last
    ∙ ap (λ (xs : List Item). xs ++ option_to_list (m.turned at what)) (sym (ap (λ (xs : List Item). front ++ xs) (end_none m line opening ack stream c f) ∙ append-nil front))

-- what the loss of a line is to it
loss_is : (opening : Opening) (happened : List LineStep) (x : LineState) → standing opening happened ≡ x → (x ≡ state.Closed → ⊥) → end_event opening (list_any is_acknowledgement happened) ≡ loss_of x
loss_is opening happened state.Open e going = open_end opening happened e
loss_is opening happened (state.Dialling peer) e going = dialling opening happened peer e
loss_is opening happened state.Closed e going = absurd (going refl)

-- A line that is not closed stands for its loss.
pub loses : (m : Meaning) (line : ℕ) (l : LineView) (opening : Opening) (happened : List LineStep) → Stands m line l opening happened → (l.state ≡ state.Closed → ⊥)
    → Stands m line (lost m line l) opening (happened ++ Gone ∷ [])
loses m line l opening happened s going =
    let after = happened ++ Gone ∷ [] in
    let rules = rules_of m line in
    let a = alive_of m line l opening happened l.state s.keeps going in
    let f = alive-fault m line l opening happened a in
    let now = past.standing_is rules opening happened l.state s.state going in
    let ack = list_any is_acknowledgement happened in
    let stream = stream_of happened in
    let new = option_to_list (m.turned (found line l) (loss_of l.state)) in
    let posts : posts_of m line opening after ≡ posts_of m line opening happened ++ new =
    ap (λ (b : Bool). posts_by m line opening b (list_any is_loss after) (stream_of after)) (any-quiet is_acknowledgement happened Gone refl)
    ∙ ap (λ (b : Bool). posts_by m line opening ack b (stream_of after)) (past.list_any-snoc is_loss happened Gone ∙ b_or_true (list_any is_loss happened))
    ∙ ap (posts_by m line opening ack true) (stream_of-quiet happened Gone refl)
    ∙ lost_posts m line opening ack stream (found line l) (loss_of l.state) a.unclosed f (sym a.greeted) (loss_is opening happened l.state now.stands going)
    ∙ ap (λ (b : Bool). posts_by m line opening ack b stream ++ new) (sym a.there) in
    record {
      can_come = past.each_can_come-snoc rules opening [] happened Gone s.can_come (λ c. going (s.state ∙ c));
      opened = s.opened;
      state = sym (past.state_behind rules opening happened Gone now.unclosed);
      outbox = ap (λ (xs : List Item). xs ++ new) s.outbox ∙ sym posts;
      lifted = omega (arith, s.lifted, length-append l.outbox new);
      sent = s.sent ∙ sym (append-nil (sent_of rules m.octets_of opening happened)) ∙ sym (past.sent_open-snoc rules m.octets_of opening happened Gone now.unclosed);
      keeps = tt;
    }

-- A line that was just opened stands for what did not happen yet.
pub opens : (m : Meaning) (line : ℕ) (opening : Opening) → Stands m line (new_line opening) opening []
opens m line opening = by opening
  where
    alive : (x : Opening) → IsAlive m line (new_line x) x []
    alive x =
        let frames : Frames [] MAX_MESSAGE (messages [] ++ []) [] = subst (λ (r : List ℕ). Frames [] MAX_MESSAGE (messages [] ++ []) r) rest_of-nil (subst (λ (ms : List (List ℕ)). Frames [] MAX_MESSAGE ms (rest_of [])) (sym (append-nil (messages []))) (frames_are [])) in
        record {
          shows = record { left = []; same_limit = refl; frames = frames; shown = refl; rest = refl; broken = refl };
          heard = refl;
          greeted = sym (ap (after_turns (at_first line x)) (turns-nil m line x));
          unclosed = ap (list_any does_close) (turns-nil m line x);
          there = refl;
        }

    by : (x : Opening) → Stands m line (new_line x) x []
    by Accepted = record { can_come = tt; opened = refl; state = refl; outbox = sym (posts-silent m line Accepted false); lifted = omega arith; sent = refl; keeps = alive Accepted }
    by (Dialled peer generation) = record { can_come = tt; opened = refl; state = refl; outbox = sym (posts-silent m line (Dialled peer generation) false); lifted = omega arith; sent = refl; keeps = (alive (Dialled peer generation), refl, refl) }
