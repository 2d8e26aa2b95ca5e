-- A round goes on by one message.
use Rattle.std.proofs.Common.{◌≡◌, ℕ, Bool, true, false, List, [], ◌∷◌, ◌++◌, refl, sym, ap, subst, ◌∙◌, append_assoc}
use Rattle.std.specs.Prelude.{◌||◌, option_to_list, if◌then◌else◌}
use Rattle.std.specs.List.{list_any}
use Rattle.std.proofs.lemmas.List.{append-nil}
use Rattle.std.proofs.lemmas.List.Folds.{list_any-append}
use Rattle.dia_frame.specs.Framer.{FramerState}
use Rattle.bench_item.specs.declared.hears.Heard.{Heard}
use Rattle.bench_item.specs.declared.hears.Turn.{Turn}
use Rattle.bench_line.specs.Rounds.{RoundView, IsRound, IsTurned}
use Rattle.bench_line.specs.Talk.{Meaning, after_turn, after_turns, turns_by, does_close, posts_in, answers_in}
use Rattle.bench_line.proofs.PastLemmas.{or-false}
use Rattle.bench_line.proofs.TurnLemmas.{turns_by-append, turns_by-closed, after_turns-append, posts_in-append, answers_in-append}

-- no message was heard yet
pub no_round : (m : Meaning) (at : Heard) (round : RoundView) → round.at ≡ at → round.posts ≡ [] → round.answers ≡ [] → round.closed ≡ false → IsRound m at [] round
no_round m at round a p q c = record { at = a; posts = p; answers = q; closed = c }

none_either_way : (b : Bool) → let none : List Turn = [] in (if b then none else none) ≡ none
none_either_way true = refl
none_either_way false = refl

-- one message gives one turn
one_turn : (heard : Heard → List ℕ → Turn) (at : Heard) (x : List ℕ) → turns_by heard at (x ∷ []) ≡ heard at x ∷ []
one_turn heard at x = ap (λ (zs : List Turn). heard at x ∷ zs) (none_either_way (heard at x).closes)

-- one more message
pub round-push : (m : Meaning) (at : Heard) (messages : List (List ℕ)) (x : List ℕ) (old new : RoundView) → IsRound m at messages old → old.closed ≡ false → IsTurned (m.heard old.at x) old new
    → IsRound m at (messages ++ x ∷ []) new
round-push m at messages x old new r unclosed t =
    let done = turns_by m.heard at messages in
    let one = m.heard old.at x in
    let none : list_any does_close done ≡ false = sym r.closed ∙ unclosed in
    let e : turns_by m.heard at (messages ++ x ∷ []) ≡ done ++ one ∷ [] =
    turns_by-append m.heard at messages (x ∷ []) none
    ∙ ap (λ (a : Heard). done ++ turns_by m.heard a (x ∷ [])) (sym r.at)
    ∙ ap (λ (zs : List Turn). done ++ zs) (one_turn m.heard old.at x) in
    record {
      at = t.at ∙ ap (λ (a : Heard). after_turn a one) r.at ∙ sym (after_turns-append at done (one ∷ [])) ∙ ap (after_turns at) (sym e);
      posts = t.posts ∙ ap (λ ys. ys ++ option_to_list one.post) r.posts ∙ ap (λ ys. posts_in done ++ ys) (sym (append-nil (option_to_list one.post))) ∙ sym (posts_in-append done (one ∷ [])) ∙ ap posts_in (sym e);
      answers = t.answers ∙ ap (λ ys. ys ++ one.answer) r.answers ∙ ap (λ ys. answers_in done ++ ys) (sym (append-nil one.answer)) ∙ sym (answers_in-append done (one ∷ [])) ∙ ap answers_in (sym e);
      closed = t.closed ∙ sym (or-false one.closes) ∙ ap (λ (b : Bool). b || (one.closes || false)) (sym none) ∙ sym (list_any-append does_close done (one ∷ [])) ∙ ap (list_any does_close) (sym e);
    }

-- Behind a message that closes the line nothing is heard.
pub round-closed : (m : Meaning) (at : Heard) (messages more : List (List ℕ)) (round : RoundView) → IsRound m at messages round → round.closed ≡ true → IsRound m at (messages ++ more) round
round-closed m at messages more round r closed =
    let e = sym (turns_by-closed m.heard at messages more (sym r.closed ∙ closed)) in
    let P : List Turn → Type 0 = λ done. (round.at ≡ after_turns at done) × (round.posts ≡ posts_in done) × (round.answers ≡ answers_in done) × (round.closed ≡ list_any does_close done) in
    let p = subst P e (r.at, r.posts, r.answers, r.closed) in
    record { at = p.0; posts = p.1; answers = p.2; closed = p.3 }

-- These were heard, and none closed the line; the others wait.
pub record SoFar (m : Meaning) (at : Heard) (start now : FramerState) (round : RoundView) : Type 0 where
  pub done : List (List ℕ)
  pub split : start.waiting ≡ done ++ now.waiting
  pub same : now ≡ record start { waiting = now.waiting }
  pub round_is : IsRound m at done round
  pub unclosed : round.closed ≡ false

-- nothing was heard yet
pub so_far-none : (m : Meaning) (at : Heard) (start : FramerState) (round : RoundView) → round.at ≡ at → round.posts ≡ [] → round.answers ≡ [] → round.closed ≡ false → SoFar m at start start round
so_far-none m at start round a p q c = record { done = []; split = refl; same = refl; round_is = no_round m at round a p q c; unclosed = c }

-- The oldest message that waits was heard, and the others wait.
pub record Pushed (m : Meaning) (at : Heard) (start now : FramerState) (round : RoundView) : Type 0 where
  pub done : List (List ℕ)
  pub split : start.waiting ≡ done ++ now.waiting
  pub same : now ≡ record start { waiting = now.waiting }
  pub round_is : IsRound m at done round

pub pushed : (m : Meaning) (at : Heard) (start old new : FramerState) (x octets : List ℕ) (before after : RoundView) → SoFar m at start old before → old ≡ record new { waiting = x ∷ new.waiting }
    → octets ≡ x → IsTurned (m.heard before.at octets) before after → Pushed m at start new after
pushed m at start old new x octets before after s e is t' =
    let t : IsTurned (m.heard before.at x) before after = subst (λ (y : List ℕ). IsTurned (m.heard before.at y) before after) is t' in
    let w : old.waiting ≡ x ∷ new.waiting = ap (λ (f : FramerState). f.waiting) e in
    record {
      done = s.done ++ x ∷ [];
      split = s.split ∙ ap (λ ys. s.done ++ ys) w ∙ sym (append_assoc s.done (x ∷ []) new.waiting);
      same = ap (λ (f : FramerState). record f { waiting = new.waiting }) (sym e ∙ s.same);
      round_is = round-push m at s.done x before after s.round_is s.unclosed t;
    }

-- it goes on
pub so_far-on : (m : Meaning) (at : Heard) (start now : FramerState) (round : RoundView) → Pushed m at start now round → round.closed ≡ false → SoFar m at start now round
so_far-on m at start now round p unclosed = record { done = p.done; split = p.split; same = p.same; round_is = p.round_is; unclosed = unclosed }

-- it ends at a message that closes the line
pub round-of_closed : (m : Meaning) (at : Heard) (start now : FramerState) (round : RoundView) → Pushed m at start now round → round.closed ≡ true → IsRound m at start.waiting round
round-of_closed m at start now round p closed = subst (λ (ms : List (List ℕ)). IsRound m at ms round) (sym p.split) (round-closed m at p.done now.waiting round p.round_is closed)

-- it ends where no message waits
pub round-of_all : (m : Meaning) (at : Heard) (start now : FramerState) (round : RoundView) → SoFar m at start now round → now.waiting ≡ [] → IsRound m at start.waiting round
round-of_all m at start now round s e = subst (λ (ms : List (List ℕ)). IsRound m at ms round) (sym (s.split ∙ ap (λ ys. s.done ++ ys) e ∙ append-nil s.done)) s.round_is
