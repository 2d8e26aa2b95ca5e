-- What a line put out stays, and goes on behind, with one more entry.
use Rattle.std.proofs.Common.{◌≡◌, ◌-◌, ◌<◌, ◌≤◌, ℕ, zero, suc, List, [], ◌∷◌, ◌++◌, length, Bool, true, false, Option, Some, None, refl, sym, ◌∙◌, ap, subst, arith}
use Rattle.std.specs.Prelude.{◌==◌, option_map, option_to_list, slice_get, if◌then◌else◌}
use Rattle.std.specs.Option.{option_map_or}
use Rattle.std.specs.List.{list_any}
use Rattle.std.proofs.lemmas.Bool.Decides.{nat_tests}
use Rattle.std.proofs.lemmas.List.{append-nil}
use Rattle.std.proofs.lemmas.Option.{same_Some, slice_get_within}
use Rattle.dia_frame.proofs.FrameLemmas.{frames-append}
use Rattle.bench_item.specs.declared.entry.Entry.{Entry}
use Rattle.bench_item.specs.declared.entry.Handled.{Handled}
use Rattle.bench_item.specs.declared.hears.Heard.{Heard}
use Rattle.bench_item.specs.declared.hears.LineEvent.TheVariants as event
use Rattle.bench_item.specs.declared.item.Item.{Item}
use Rattle.bench_item.specs.declared.item.Item.TheVariants.{ToMachine, ToLine, Dial, Undial, Arm, Disarm}
use Rattle.bench_item.specs.declared.line_state.LineState.TheVariants as at
use Rattle.bench_item.specs.declared.opening.Opening.{Opening}
use Rattle.bench_item.specs.declared.source.Source.{Source}
use Rattle.bench_item.specs.declared.step.Step.{Step}
use Rattle.bench_item.specs.declared.step.Step.TheVariants.{Joined, Dialled, Came, Lost, Told, Fired, Lift, Drop, Work}
use Rattle.bench_item.specs.Lines.{LineStep, Acknowledged, Received, Gone, Delivered, Undialled, is_acknowledgement, state_of}
use Rattle.bench_line.specs.Line.{CanCome, EachCanCome, LineView, Stands, found, loss_of}
use Rattle.bench_line.specs.Lines.{AreLinesAfter, line_at}
use Rattle.bench_line.specs.Messages.{fault_in, messages, rest_of}
use Rattle.bench_line.specs.Rounds.{fault_posts}
use Rattle.bench_line.specs.Talk.{Meaning, after_turns, at_first, does_close, is_loss, posts_by, posts_in, posts_of, rules_of, stream_of, turns, turns_by}
use Rattle.bench_line.specs.declared.limit.TheConstants.{MAX_MESSAGE}
use Rattle.bench_line.proofs.AliveLemmas.{IsQuiet, posts_of-quiet}
use Rattle.bench_line.proofs.EventLemmas.{acknowledges, loses}
use Rattle.bench_line.proofs.MessageLemmas.{frames_are, messages-of_frames}
use Rattle.bench_line.proofs.PastLemmas.{list_any-snoc, or-false, standing_is, stream_of-snoc}
use Rattle.bench_line.proofs.ReceiveLemmas.{alive-fault, alive_open, more_posts, open_end}
use Rattle.bench_line.proofs.TurnLemmas.{turns_by-append}
use Rattle.bench_spec.specs.Items.{IsFront}
use Rattle.bench_spec.specs.Lines as lines
use Rattle.bench_spec.specs.Lines.{line_step, line_steps, opened_in, opening_of}
use Rattle.bench_spec.proofs.AfterLemmas.{flat_map-snoc}
use Rattle.bench_spec.proofs.BookLemmas.{entry_of}
use Rattle.bench_spec.proofs.LineLemmas.{line_steps-snoc}
use Rattle.bench_views.specs.LinePasts.{EachMayCome, StandsAt, line_posts_by, line_state_by, past_of, pasts_of}
use Rattle.bench_views.proofs.LinePasts.{not_zero}
use Rattle.bench_views.proofs.LineStands.{stands_at}

-- the messages of a longer stream go on behind those of its front
messages-append : (stream piece : List ℕ)
    → messages (stream ++ piece) ≡ messages stream ++ messages (rest_of stream ++ piece)
messages-append stream piece =
    let behind = rest_of stream ++ piece in
    let frames =
    frames-append MAX_MESSAGE stream piece (rest_of stream) (rest_of behind) (messages stream) (messages behind)
    (frames_are stream) (frames_are behind) in
    (messages-of_frames (stream ++ piece) (messages stream ++ messages behind) (rest_of behind) frames).0

-- what an open line put out goes on with what it makes of a piece
received-posts : (m : Meaning) (line : ℕ) (l : LineView) (opening : Opening) (happened : List LineStep) (piece : List ℕ)
    → Stands m line l opening happened → l.state ≡ at.Open
    → IsFront (posts_of m line opening happened) (posts_of m line opening (happened ++ Received piece ∷ []))
unfolding turns
received-posts m line l opening happened piece s going =
    let stream = stream_of happened in
    let ack = list_any is_acknowledgement happened in
    let after = happened ++ Received piece ∷ [] in
    let a = alive_open m line l opening happened s going in
    let now =
    standing_is (rules_of m line) opening happened l.state s.state (λ e. let b = sym going ∙ e in absurd cc) in
    let new = turns_by m.heard (found line l) (messages (rest_of stream ++ piece)) in
    let turned : turns m line opening (stream ++ piece) ≡ turns m line opening stream ++ new =
    ap (turns_by m.heard (at_first line opening)) (messages-append stream piece)
    ∙ turns_by-append m.heard (at_first line opening) (messages stream) (messages (rest_of stream ++ piece)) a.unclosed
    ∙ ap (λ (x : Heard). turns m line opening stream ++ turns_by m.heard x (messages (rest_of stream ++ piece)))
    (sym a.greeted) in
    let more =
    posts_in new ++ fault_posts m (list_any does_close new) (after_turns (found line l) new)
    (fault_in (stream ++ piece)) in
    let acked : list_any is_acknowledgement after ≡ ack =
    list_any-snoc is_acknowledgement happened (Received piece) ∙ or-false ack in
    let gone : list_any is_loss after ≡ false =
    list_any-snoc is_loss happened (Received piece) ∙ or-false (list_any is_loss happened) ∙ a.there in
    let posts : posts_of m line opening after ≡ posts_of m line opening happened ++ more =
    ap (λ (b : Bool). posts_by m line opening b (list_any is_loss after) (stream_of after)) acked
    ∙ ap (λ (b : Bool). posts_by m line opening ack b (stream_of after)) gone
    ∙ ap (posts_by m line opening ack false) (stream_of-snoc happened (Received piece))
    ∙ more_posts m line opening ack stream piece new (found line l)
    (open_end opening happened (now.stands ∙ going)) a.unclosed
    (alive-fault m line l opening happened a) a.greeted turned
    ∙ ap (λ (b : Bool). posts_by m line opening ack b stream ++ more) (sym a.there) in
    (more, sym posts)

-- a step that puts nothing out
quiet_front : (m : Meaning) (line : ℕ) (opening : Opening) (happened : List LineStep) (step : LineStep) → IsQuiet step
    → IsFront (posts_of m line opening happened) (posts_of m line opening (happened ++ step ∷ []))
quiet_front m line opening happened step quiet =
    ([], append-nil (posts_of m line opening happened) ∙ sym (posts_of-quiet m line opening happened step quiet))

-- What a line put out stays, and goes on behind, with a step that may come.
pub posts_of-go_on : (m : Meaning) (line : ℕ) (l : LineView) (opening : Opening) (happened : List LineStep)
    (step : LineStep)
    → Stands m line l opening happened → CanCome (rules_of m line) opening happened step
    → IsFront (posts_of m line opening happened) (posts_of m line opening (happened ++ step ∷ []))
posts_of-go_on m line l opening happened Acknowledged s c =
    let more = option_to_list (m.turned (found line l) event.Acknowledged) in
    let new = acknowledges m line l opening happened c.0 s (s.state ∙ c.1) in
    (more, ap (λ (items : List Item). items ++ more) (sym s.outbox) ∙ new.outbox)
posts_of-go_on m line l opening happened (Received piece) s c =
    received-posts m line l opening happened piece s (s.state ∙ c)
posts_of-go_on m line l opening happened Gone s c =
    let more = option_to_list (m.turned (found line l) (loss_of l.state)) in
    let new = loses m line l opening happened s (λ closed. c (sym s.state ∙ closed)) in
    (more, ap (λ (items : List Item). items ++ more) (sym s.outbox) ∙ new.outbox)
posts_of-go_on m line l opening happened (Delivered item) s c =
    quiet_front m line opening happened (Delivered item)
    (record { no_acknowledgement = refl; no_loss = refl; no_octets = refl; can_come = λ rules x before. tt })
posts_of-go_on m line l opening happened (Undialled peer generation) s c =
    quiet_front m line opening happened (Undialled peer generation)
    (record { no_acknowledgement = refl; no_loss = refl; no_octets = refl; can_come = λ rules x before. tt })

-- an entry is one step at most to a line
few_by : (b : Bool) (step : LineStep) → length (if b then step ∷ [] else []) ≤ 1
few_by true step = omega arith
few_by false step = omega arith

few_dropped : (b : Bool) (step : LineStep) → length ((if b then step ∷ [] else []) ++ []) ≤ 1
few_dropped true step = omega arith
few_dropped false step = omega arith

few_steps : (line : ℕ) (step : Step) (item : Option Item) (handled : Option Handled)
    → length (line_step line (entry_of step item handled)) ≤ 1
few_steps line Joined item handled = omega arith
few_steps line (Dialled n) item handled = few_by (n == line) Acknowledged
few_steps line (Came n piece) item handled = few_by (n == line) (Received piece)
few_steps line (Lost n) item handled = few_by (n == line) Gone
few_steps line (Told desk key told) item handled = omega arith
few_steps line (Fired machine generation) item handled = omega arith
few_steps line (Lift source) item handled = omega arith
few_steps line (Drop source) None handled = omega arith
few_steps line (Drop source) (Some (ToMachine i)) handled = omega arith
few_steps line (Drop source) (Some (ToLine i)) handled = few_dropped (i.line == line) (Delivered i)
few_steps line (Drop source) (Some (Dial p g)) handled = omega arith
few_steps line (Drop source) (Some (Undial p g)) handled = omega arith
few_steps line (Drop source) (Some (Arm n g t)) handled = omega arith
few_steps line (Drop source) (Some (Disarm n)) handled = omega arith
few_steps line (Work shard) item handled = omega arith

steps_go_on : (m : Meaning) (line : ℕ) (l : LineView) (opening : Opening) (happened steps : List LineStep)
    → length steps ≤ 1
    → Stands m line l opening happened → EachCanCome (rules_of m line) opening happened steps
    → IsFront (posts_of m line opening happened) (posts_of m line opening (happened ++ steps))
steps_go_on m line l opening happened [] few s c =
    ([], append-nil (posts_of m line opening happened) ∙ ap (posts_of m line opening) (sym (append-nil happened)))
steps_go_on m line l opening happened (step ∷ []) few s c = posts_of-go_on m line l opening happened step s c.0
steps_go_on m line l opening happened (step ∷ other ∷ steps) few s c = absurd (omega (arith, few))

-- a line that is there stays there, opened as it was
get-append : {X : Type 0} (xs ys : List X) (place : ℕ) (x : X) → slice_get xs place ≡ Some x
    → slice_get (xs ++ ys) place ≡ Some x
get-append [] ys place x there = absurd cc
get-append (y ∷ xs) ys zero x there = there
get-append (y ∷ xs) ys (suc place) x there = get-append xs ys place x there

-- the line is there
record IsThere (log : List Entry) (line : ℕ) (opening : Opening) : Type 0 where
  some : 0 < line
  within : line ≤ length (lines.openings log)
  stays : (e : Entry) → opening_of (log ++ e ∷ []) line ≡ Some opening

is_there : (log : List Entry) (line : ℕ) (opening : Opening) → opening_of log line ≡ Some opening
    → IsThere log line opening
is_there log line opening = by (line == 0) refl
  where
    by : (b : Bool) → (line == 0) ≡ b → (if b then None else slice_get (lines.openings log) (line - 1)) ≡ Some opening
        → IsThere log line opening
    by true is there = absurd cc
    by false is there =
        let some : 0 < line = not_zero line is in
        let within : line - 1 < length (lines.openings log) =
        slice_get_within (lines.openings log) (line - 1) opening there in
        record {
          some = some;
          within = omega (arith, within, some);
          stays = λ e.
              rw is (ap (λ os. slice_get os (line - 1)) (flat_map-snoc opened_in log e)
              ∙ get-append (lines.openings log) (opened_in e) (line - 1) opening there);
        }

posts_at : (m : Meaning) (log : List Entry) (line : ℕ) (opening : Opening) → opening_of log line ≡ Some opening
    → line_posts_by m log line ≡ posts_of m line opening (line_steps log line)
posts_at m log line opening there = ap (λ o. option_map_or (λ x. posts_of m line x (line_steps log line)) o []) there

-- With one more entry, which may come to each line, what each put out stays and goes on behind.
pub line_posts-go_on : (m : Meaning) (ls : List LineView) (log : List Entry) (e : Entry) → AreLinesAfter m ls (pasts_of log)
    → EachMayCome m log e → (line : ℕ)
    → IsFront (line_posts_by m log line) (line_posts_by m (log ++ e ∷ []) line)
line_posts-go_on m ls log e s comes line = by (line_at ls line) (opening_of log line) refl (stands_at m ls log line s)
  where
    by : (l : Option LineView) (o : Option Opening) → opening_of log line ≡ o
        → StandsAt m line l (option_map (λ x. past_of x (line_steps log line)) o)
        → IsFront (line_posts_by m log line) (line_posts_by m (log ++ e ∷ []) line)
    by l None is stands =
        let none : line_posts_by m log line ≡ [] =
        ap (λ o. option_map_or (λ x. posts_of m line x (line_steps log line)) o []) is in
        let all = line_posts_by m (log ++ e ∷ []) line in
        (all, ap (λ items. items ++ all) none)
    by None (Some opening) is stands = elim stands [ ]
    by (Some l) (Some opening) is stands =
        let there = is_there log line opening is in
        let front =
        steps_go_on m line l opening (line_steps log line) (line_step line e)
        (few_steps line e.step e.item e.handled) stands (comes line opening is) in (
          front.0,
          ap (λ items. items ++ front.0) (posts_at m log line opening is) ∙ front.1
              ∙ ap (posts_of m line opening) (sym (line_steps-snoc log e line there.some there.within))
              ∙ sym (posts_at m (log ++ e ∷ []) line opening (there.stays e)),
        )

-- When one more entry may come to each line: where it is nothing to any,
pub may_come-quiet : (m : Meaning) (log : List Entry) (e : Entry) → ((line : ℕ) → line_step line e ≡ [])
    → EachMayCome m log e
may_come-quiet m log e quiet line opening there =
    subst (EachCanCome (rules_of m line) opening (line_steps log line)) (sym (quiet line)) tt

one_may_come : (m : Meaning) (log : List Entry) (e : Entry) (line : ℕ) (step : LineStep)
    → ((n : ℕ) → line_step n e ≡ (if line == n then step ∷ [] else []))
    → ((opening : Opening) → opening_of log line ≡ Some opening
    → CanCome (rules_of m line) opening (line_steps log line) step)
    → EachMayCome m log e
one_may_come m log e line step one comes n opening there =
    subst (EachCanCome (rules_of m n) opening (line_steps log n)) (sym (one n)) (by (line == n) refl)
  where
    by : (b : Bool) → (line == n) ≡ b
        → EachCanCome (rules_of m n) opening (line_steps log n) (if b then step ∷ [] else [])
    by true is =
        let same : line ≡ n = grind (arith, nat_tests, is) in (
          subst (λ k. CanCome (rules_of m k) opening (line_steps log k) step) same
              (comes opening (ap (opening_of log) same ∙ there)),
          tt,
        )
    by false is = tt

-- where a line stands that is there
state_there : (m : Meaning) (log : List Entry) (line : ℕ) (opening : Opening) → opening_of log line ≡ Some opening
    → line_state_by m log line ≡ Some (state_of (rules_of m line) opening (line_steps log line))
state_there m log line opening there =
    ap (option_map (λ x. state_of (rules_of m line) x (line_steps log line))) there

-- where octets come on a line that is open,
pub may_come-came : (m : Meaning) (log : List Entry) (line : ℕ) (piece : List ℕ) (item : Option Item)
    (handled : Option Handled)
    → line_state_by m log line ≡ Some at.Open → EachMayCome m log (entry_of (Came line piece) item handled)
may_come-came m log line piece item handled is_open =
    one_may_come m log (entry_of (Came line piece) item handled) line (Received piece) (λ n. refl)
    (λ opening there. same_Some (state_of (rules_of m line) opening (line_steps log line)) at.Open
    (sym (state_there m log line opening there) ∙ is_open))

-- where one is acknowledged that is being dialled,
pub may_come-dialled : (m : Meaning) (log : List Entry) (line peer : ℕ) (item : Option Item) (handled : Option Handled)
    → line_state_by m log line ≡ Some (at.Dialling peer)
    → EachMayCome m log (entry_of (Dialled line) item handled)
may_come-dialled m log line peer item handled dialling =
    one_may_come m log (entry_of (Dialled line) item handled) line Acknowledged (λ n. refl)
    (λ opening there. (
      peer,
      same_Some (state_of (rules_of m line) opening (line_steps log line)) (at.Dialling peer)
          (sym (state_there m log line opening there) ∙ dialling),
    ))

-- where one is lost that is not closed,
pub may_come-lost : (m : Meaning) (log : List Entry) (line : ℕ) (item : Option Item) (handled : Option Handled)
    → (line_state_by m log line ≡ Some at.Closed → ⊥) → EachMayCome m log (entry_of (Lost line) item handled)
may_come-lost m log line item handled unclosed =
    one_may_come m log (entry_of (Lost line) item handled) line Gone (λ n. refl)
    (λ opening there closed. unclosed (state_there m log line opening there ∙ ap Some closed))

-- and where anything is dropped.
pub may_come-dropped : (m : Meaning) (log : List Entry) (source : Source) (item : Item) (handled : Option Handled)
    → EachMayCome m log (entry_of (Drop source) (Some item) handled)
may_come-dropped m log source (ToMachine i) handled =
    may_come-quiet m log (entry_of (Drop source) (Some (ToMachine i)) handled) (λ line. refl)
may_come-dropped m log source (ToLine i) handled =
    one_may_come m log (entry_of (Drop source) (Some (ToLine i)) handled) i.line (Delivered i)
    (λ n. append-nil (if i.line == n then Delivered i ∷ [] else [])) (λ opening there. tt)
may_come-dropped m log source (Dial p g) handled =
    may_come-quiet m log (entry_of (Drop source) (Some (Dial p g)) handled) (λ line. refl)
may_come-dropped m log source (Undial p g) handled = λ line opening there. (tt, tt)
may_come-dropped m log source (Arm n g t) handled =
    may_come-quiet m log (entry_of (Drop source) (Some (Arm n g t)) handled) (λ line. refl)
may_come-dropped m log source (Disarm n) handled =
    may_come-quiet m log (entry_of (Drop source) (Some (Disarm n)) handled) (λ line. refl)
