-- What happened to each line of a log, with one more entry.
use Rattle.std.proofs.Common.{◌≡◌, ◌+◌, ◌-◌, ◌<◌, ◌≤◌, ℕ, zero, suc, List, [], ◌∷◌, ◌++◌, length, Bool, true, false, Option, Some, refl, ◌∙◌, ap, length-append, arith}
use Rattle.std.specs.Prelude.{◌==◌, map, flat_map, if◌then◌else◌}
use Rattle.std.proofs.lemmas.Bool.Decides.{nat_tests}
use Rattle.std.proofs.lemmas.List.{append-nil}
use Rattle.tab_step.specs.declared.machine.Event.{Event}
use Rattle.bench_item.specs.declared.entry.Entry.{Entry}
use Rattle.bench_item.specs.declared.entry.Handled.{Handled}
use Rattle.bench_item.specs.declared.item.Item.{Item}
use Rattle.bench_item.specs.declared.item.Item.TheVariants.{ToMachine, ToLine, Dial, Undial, Arm, Disarm}
use Rattle.bench_item.specs.declared.item.LineItem.{LineItem}
use Rattle.bench_item.specs.declared.item.MachineItem.{MachineItem}
use Rattle.bench_item.specs.declared.key.Key.{Key}
use Rattle.bench_item.specs.declared.opening.Opening.{Opening}
use Rattle.bench_item.specs.declared.opening.Opening.TheVariants as openings
use Rattle.bench_item.specs.declared.source.Source.{Source}
use Rattle.bench_item.specs.declared.step.Step.TheVariants.{Joined, Dialled, Came, Lost, Told, Fired, Lift, Drop, Work}
use Rattle.bench_item.specs.Lines.{LineStep, Acknowledged, Received, Gone, Delivered, Undialled}
use Rattle.bench_line.specs.Lines.{Past, one_more, opened, with_step, with_step_at}
use Rattle.bench_spec.specs.Lines as lines
use Rattle.bench_spec.specs.Lines.{line_step, line_steps, opened_in, since_opening}
use Rattle.bench_spec.proofs.AfterLemmas.{flat_map-snoc}
use Rattle.bench_spec.proofs.BookLemmas.{entry_of}
use Rattle.bench_spec.proofs.LineLemmas.{line_steps-snoc}
use Rattle.bench_views.specs.LinePasts.{past_of, pasts_by, pasts_of, with_steps}

-- more steps of each
pasts_by-more : (all old new : ℕ → List LineStep) (first : ℕ) (os : List Opening)
    → ((n : ℕ) → first ≤ n → n < first + length os → all n ≡ old n ++ new n)
    → pasts_by all first os ≡ with_steps new first (pasts_by old first os)
pasts_by-more all old new first [] h = refl
pasts_by-more all old new first (o ∷ os) h =
    ap (λ steps. past_of o steps ∷ pasts_by all (first + 1) os) (h first (omega arith) (omega arith))
    ∙ ap (λ pasts. past_of o (old first ++ new first) ∷ pasts)
    (pasts_by-more all old new (first + 1) os (λ n from to. h n (omega (arith, from)) (omega (arith, to))))

-- no more steps of any from this number on
with_steps-none : (new : ℕ → List LineStep) (first : ℕ) (pasts : List Past) → ((n : ℕ) → first ≤ n → new n ≡ [])
    → with_steps new first pasts ≡ pasts
with_steps-none new first [] h = refl
with_steps-none new first (past ∷ pasts) h =
    ap (λ steps. past_of past.opening (past.happened ++ steps) ∷ with_steps new (first + 1) pasts)
    (h first (omega arith))
    ∙ ap (λ steps. past_of past.opening steps ∷ with_steps new (first + 1) pasts) (append-nil past.happened)
    ∙ ap (λ others. past ∷ others) (with_steps-none new (first + 1) pasts (λ n from. h n (omega (arith, from))))

-- one step more of each
with_steps-each : (new : ℕ → List LineStep) (step : LineStep) (first : ℕ) (pasts : List Past)
    → ((n : ℕ) → new n ≡ step ∷ []) → with_steps new first pasts ≡ map (one_more step) pasts
with_steps-each new step first [] h = refl
with_steps-each new step first (past ∷ pasts) h =
    ap (λ steps. past_of past.opening (past.happened ++ steps) ∷ with_steps new (first + 1) pasts) (h first)
    ∙ ap (λ others. one_more step past ∷ others) (with_steps-each new step (first + 1) pasts h)

-- one step more of one of them
with_steps-at : (new : ℕ → List LineStep) (step : LineStep) (first place line : ℕ) (pasts : List Past)
    → line ≡ first + place
    → new line ≡ step ∷ [] → ((n : ℕ) → (line ≡ n → ⊥) → new n ≡ [])
    → with_steps new first pasts ≡ with_step_at place step pasts
with_steps-at new step first zero line [] number own others = refl
with_steps-at new step first (suc place) line [] number own others = refl
with_steps-at new step first zero line (past ∷ pasts) number own others =
    ap (λ steps. past_of past.opening (past.happened ++ steps) ∷ with_steps new (first + 1) pasts)
    (ap new (omega (arith, number)) ∙ own)
    ∙ ap (λ rest. one_more step past ∷ rest)
    (with_steps-none new (first + 1) pasts (λ n from. others n (λ same. omega (arith, number, from, same))))
with_steps-at new step first (suc place) line (past ∷ pasts) number own others =
    ap (λ steps. past_of past.opening (past.happened ++ steps) ∷ with_steps new (first + 1) pasts)
    (others first (λ same. omega (arith, number, same)))
    ∙ ap (λ steps. past_of past.opening steps ∷ with_steps new (first + 1) pasts) (append-nil past.happened)
    ∙ ap (λ rest. past ∷ rest) (with_steps-at new step (first + 1) place line pasts (omega (arith, number)) own others)

itself : (n : ℕ) → (n == n) ≡ true
itself n = grind (arith, nat_tests)

differs : (line n : ℕ) → (line ≡ n → ⊥) → (line == n) ≡ false
differs line n other = grind (arith, nat_tests, other)

is_zero : (n : ℕ) → (n == 0) ≡ true → n ≡ 0
is_zero n h = grind (arith, nat_tests)

pub not_zero : (n : ℕ) → (n == 0) ≡ false → 0 < n
not_zero n h = grind (arith, nat_tests)

-- one step more of the line of that number, of which there may be none
with_steps-one : (new : ℕ → List LineStep) (line : ℕ) (step : LineStep) (pasts : List Past)
    → ((n : ℕ) → new n ≡ (if line == n then step ∷ [] else []))
    → with_steps new 1 pasts ≡ with_step line step pasts
with_steps-one new line step pasts h = by (line == 0) refl
  where
    other : (n : ℕ) → (line ≡ n → ⊥) → new n ≡ []
    other n apart = h n ∙ ap (λ b. if b then step ∷ [] else []) (differs line n apart)

    by : (b : Bool) → (line == 0) ≡ b
        → with_steps new 1 pasts ≡ (if b then pasts else with_step_at (line - 1) step pasts)
    by true is =
        let none : line ≡ 0 = is_zero line is in
        with_steps-none new 1 pasts (λ n from. other n (λ same. omega (arith, none, from, same)))
    by false is =
        let some : 0 < line = not_zero line is in
        with_steps-at new step 1 (line - 1) line pasts (omega (arith, some))
        (h line ∙ ap (λ b. if b then step ∷ [] else []) (itself line)) other

-- an entry that opens no line
openings-same : (log : List Entry) (e : Entry) → opened_in e ≡ [] → lines.openings (log ++ e ∷ []) ≡ lines.openings log
openings-same log e none =
    flat_map-snoc opened_in log e ∙ ap (λ os. lines.openings log ++ os) none ∙ append-nil (lines.openings log)

-- With one more entry that opens no line, what it is to each stands behind what happened to it.
pub pasts_of-snoc : (log : List Entry) (e : Entry) → opened_in e ≡ []
    → pasts_of (log ++ e ∷ []) ≡ with_steps (λ line. line_step line e) 1 (pasts_of log)
pasts_of-snoc log e none =
    ap (pasts_by (line_steps (log ++ e ∷ [])) 1) (openings-same log e none)
    ∙ pasts_by-more (line_steps (log ++ e ∷ [])) (line_steps log) (λ line. line_step line e) 1 (lines.openings log)
    (λ n from to. line_steps-snoc log e n (omega (arith, from)) (omega (arith, to)))

-- One that is nothing to any line changes nothing.
pub pasts_of-quiet : (log : List Entry) (e : Entry) → opened_in e ≡ [] → ((line : ℕ) → line_step line e ≡ [])
    → pasts_of (log ++ e ∷ []) ≡ pasts_of log
pasts_of-quiet log e none quiet =
    pasts_of-snoc log e none ∙ with_steps-none (λ line. line_step line e) 1 (pasts_of log) (λ n from. quiet n)

-- a dial is acknowledged
pub pasts_of-dialled : (log : List Entry) (line : ℕ) (item : Option Item) (handled : Option Handled)
    → pasts_of (log ++ entry_of (Dialled line) item handled ∷ []) ≡ with_step line Acknowledged (pasts_of log)
pasts_of-dialled log line item handled =
    pasts_of-snoc log (entry_of (Dialled line) item handled) refl
    ∙ with_steps-one (λ n. line_step n (entry_of (Dialled line) item handled)) line Acknowledged (pasts_of log)
    (λ n. refl)

-- octets come
pub pasts_of-came : (log : List Entry) (line : ℕ) (piece : List ℕ) (item : Option Item) (handled : Option Handled)
    → pasts_of (log ++ entry_of (Came line piece) item handled ∷ []) ≡ with_step line (Received piece) (pasts_of log)
pasts_of-came log line piece item handled =
    pasts_of-snoc log (entry_of (Came line piece) item handled) refl
    ∙ with_steps-one (λ n. line_step n (entry_of (Came line piece) item handled)) line (Received piece) (pasts_of log)
    (λ n. refl)

-- a line is lost
pub pasts_of-lost : (log : List Entry) (line : ℕ) (item : Option Item) (handled : Option Handled)
    → pasts_of (log ++ entry_of (Lost line) item handled ∷ []) ≡ with_step line Gone (pasts_of log)
pasts_of-lost log line item handled =
    pasts_of-snoc log (entry_of (Lost line) item handled) refl
    ∙ with_steps-one (λ n. line_step n (entry_of (Lost line) item handled)) line Gone (pasts_of log) (λ n. refl)

-- a deed for a line is dropped
pub pasts_of-delivered : (log : List Entry) (source : Source) (item : LineItem) (handled : Option Handled)
    → pasts_of (log ++ entry_of (Drop source) (Some (ToLine item)) handled ∷ [])
    ≡ with_step item.line (Delivered item) (pasts_of log)
pasts_of-delivered log source item handled =
    pasts_of-snoc log (entry_of (Drop source) (Some (ToLine item)) handled) refl
    ∙ with_steps-one (λ n. line_step n (entry_of (Drop source) (Some (ToLine item)) handled)) item.line (Delivered item)
    (pasts_of log)
    (λ n. append-nil (if item.line == n then Delivered item ∷ [] else []))

-- a deed that ends a dial is dropped
pub pasts_of-undialled : (log : List Entry) (source : Source) (peer generation : ℕ) (handled : Option Handled)
    → pasts_of (log ++ entry_of (Drop source) (Some (Undial peer generation)) handled ∷ [])
    ≡ map (one_more (Undialled peer generation)) (pasts_of log)
pasts_of-undialled log source peer generation handled =
    pasts_of-snoc log (entry_of (Drop source) (Some (Undial peer generation)) handled) refl
    ∙ with_steps-each (λ n. line_step n (entry_of (Drop source) (Some (Undial peer generation)) handled))
    (Undialled peer generation) 1 (pasts_of log)
    (λ n. refl)

-- Entries that are no line's are nothing to any: what a desk told, what was fired, lifted or worked,
pub pasts_of-told : (log : List Entry) (desk : ℕ) (key : Key) (told : Event) (item : Option Item)
    (handled : Option Handled)
    → pasts_of (log ++ entry_of (Told desk key told) item handled ∷ []) ≡ pasts_of log
pasts_of-told log desk key told item handled =
    pasts_of-quiet log (entry_of (Told desk key told) item handled) refl (λ line. refl)

pub pasts_of-fired : (log : List Entry) (machine generation : ℕ) (item : Option Item) (handled : Option Handled)
    → pasts_of (log ++ entry_of (Fired machine generation) item handled ∷ []) ≡ pasts_of log
pasts_of-fired log machine generation item handled =
    pasts_of-quiet log (entry_of (Fired machine generation) item handled) refl (λ line. refl)

pub pasts_of-lifted : (log : List Entry) (source : Source) (item : Option Item) (handled : Option Handled)
    → pasts_of (log ++ entry_of (Lift source) item handled ∷ []) ≡ pasts_of log
pasts_of-lifted log source item handled = pasts_of-quiet log (entry_of (Lift source) item handled) refl (λ line. refl)

pub pasts_of-worked : (log : List Entry) (shard : ℕ) (item : Option Item) (handled : Option Handled)
    → pasts_of (log ++ entry_of (Work shard) item handled ∷ []) ≡ pasts_of log
pasts_of-worked log shard item handled = pasts_of-quiet log (entry_of (Work shard) item handled) refl (λ line. refl)

-- and the drop of an event for a machine, or of one that arms or disarms a timer.
pub pasts_of-dropped_event : (log : List Entry) (source : Source) (item : MachineItem) (handled : Option Handled)
    → pasts_of (log ++ entry_of (Drop source) (Some (ToMachine item)) handled ∷ []) ≡ pasts_of log
pasts_of-dropped_event log source item handled =
    pasts_of-quiet log (entry_of (Drop source) (Some (ToMachine item)) handled) refl (λ line. refl)

pub pasts_of-armed : (log : List Entry) (source : Source) (machine generation ticks : ℕ) (handled : Option Handled)
    → pasts_of (log ++ entry_of (Drop source) (Some (Arm machine generation ticks)) handled ∷ []) ≡ pasts_of log
pasts_of-armed log source machine generation ticks handled =
    pasts_of-quiet log (entry_of (Drop source) (Some (Arm machine generation ticks)) handled) refl (λ line. refl)

pub pasts_of-disarmed : (log : List Entry) (source : Source) (machine : ℕ) (handled : Option Handled)
    → pasts_of (log ++ entry_of (Drop source) (Some (Disarm machine)) handled ∷ []) ≡ pasts_of log
pasts_of-disarmed log source machine handled =
    pasts_of-quiet log (entry_of (Drop source) (Some (Disarm machine)) handled) refl (λ line. refl)

-- an entry that opens a line
openings-more : (log : List Entry) (e : Entry) (opening : Opening) → opened_in e ≡ opening ∷ []
    → lines.openings (log ++ e ∷ []) ≡ lines.openings log ++ opening ∷ []
openings-more log e opening one = flat_map-snoc opened_in log e ∙ ap (λ os. lines.openings log ++ os) one

-- behind it nothing came
since-opened : (log : List Entry) (e : Entry) (line : ℕ) → length (opened_in e) ≡ 1
    → line ≡ 1 + length (lines.openings log)
    → since_opening line (log ++ e ∷ []) ≡ []
since-opened [] e line one number =
    let is : (line == length (opened_in e)) ≡ true = grind (arith, nat_tests, one, number) in
    rw is refl
since-opened (x ∷ log) e line one number =
    let all : length (lines.openings (x ∷ log)) ≡ length (opened_in x) + length (lines.openings log) =
    length-append (opened_in x) (lines.openings log) in
    let is : (line == length (opened_in x)) ≡ false = grind (arith, nat_tests, all, number) in
    rw is (since-opened log e (line - length (opened_in x)) one (omega (arith, all, number)))

-- the same steps of each, and one opening more
pasts_by-same : (all old : ℕ → List LineStep) (first : ℕ) (os : List Opening)
    → ((n : ℕ) → first ≤ n → n < first + length os → all n ≡ old n) → pasts_by all first os ≡ pasts_by old first os
pasts_by-same all old first [] h = refl
pasts_by-same all old first (o ∷ os) h =
    ap (λ steps. past_of o steps ∷ pasts_by all (first + 1) os) (h first (omega arith) (omega arith))
    ∙ ap (λ pasts. past_of o (old first) ∷ pasts)
    (pasts_by-same all old (first + 1) os (λ n from to. h n (omega (arith, from)) (omega (arith, to))))

pasts_by-push : (all : ℕ → List LineStep) (first line : ℕ) (os : List Opening) (opening : Opening)
    → line ≡ first + length os
    → all line ≡ [] → pasts_by all first (os ++ opening ∷ []) ≡ pasts_by all first os ++ past_of opening [] ∷ []
pasts_by-push all first line [] opening number none =
    ap (λ steps. past_of opening steps ∷ []) (ap all (omega (arith, number)) ∙ none)
pasts_by-push all first line (o ∷ os) opening number none =
    ap (λ pasts. past_of o (all first) ∷ pasts)
    (pasts_by-push all (first + 1) line os opening (omega (arith, number)) none)

-- With one more entry that opens a line, that line stands behind the others.
pub pasts_of-opened : (log : List Entry) (e : Entry) (opening : Opening) → opened_in e ≡ opening ∷ []
    → ((line : ℕ) → line_step line e ≡ []) → pasts_of (log ++ e ∷ []) ≡ opened opening (pasts_of log)
pasts_of-opened log e opening one quiet =
    ap (pasts_by all 1) (openings-more log e opening one)
    ∙ pasts_by-push all 1 last (lines.openings log) opening refl
    (ap (flat_map (line_step last)) (since-opened log e last (ap length one) refl))
    ∙ ap (λ pasts. pasts ++ past_of opening [] ∷ []) (pasts_by-same all (line_steps log) 1 (lines.openings log) same)
  where
    all : ℕ → List LineStep
    all = line_steps (log ++ e ∷ [])

    last : ℕ
    last = 1 + length (lines.openings log)

    same : (n : ℕ) → 1 ≤ n → n < 1 + length (lines.openings log) → all n ≡ line_steps log n
    same n from to =
        line_steps-snoc log e n (omega (arith, from)) (omega (arith, to))
        ∙ ap (λ steps. line_steps log n ++ steps) (quiet n) ∙ append-nil (line_steps log n)

-- a peer connects
pub pasts_of-joined : (log : List Entry) (item : Option Item) (handled : Option Handled)
    → pasts_of (log ++ entry_of Joined item handled ∷ []) ≡ opened openings.Accepted (pasts_of log)
pasts_of-joined log item handled =
    pasts_of-opened log (entry_of Joined item handled) openings.Accepted refl (λ line. refl)

-- a deed that dials is dropped
pub pasts_of-dial : (log : List Entry) (source : Source) (peer generation : ℕ) (handled : Option Handled)
    → pasts_of (log ++ entry_of (Drop source) (Some (Dial peer generation)) handled ∷ [])
    ≡ opened (openings.Dialled peer generation) (pasts_of log)
pasts_of-dial log source peer generation handled =
    pasts_of-opened log (entry_of (Drop source) (Some (Dial peer generation)) handled)
    (openings.Dialled peer generation) refl (λ line. refl)

-- a step of a line that is not there
beyond : (place : ℕ) (step : LineStep) (pasts : List Past) → length pasts ≤ place
    → with_step_at place step pasts ≡ pasts
beyond zero step [] past = refl
beyond (suc place) step [] past = refl
beyond zero step (x ∷ pasts) past = absurd (omega (arith, past))
beyond (suc place) step (x ∷ pasts) past = ap (λ rest. x ∷ rest) (beyond place step pasts (omega (arith, past)))

pub with_step-beyond : (line : ℕ) (step : LineStep) (pasts : List Past) → length pasts < line
    → with_step line step pasts ≡ pasts
with_step-beyond line step pasts past =
    let some : (line == 0) ≡ false = grind (arith, nat_tests, past) in
    rw some (beyond (line - 1) step pasts (omega (arith, past)))

pub with_step-none : (step : LineStep) (pasts : List Past) → with_step 0 step pasts ≡ pasts
with_step-none step pasts = refl

-- as many lines are there as were opened
length-pasts_by : (happened : ℕ → List LineStep) (first : ℕ) (os : List Opening)
    → length (pasts_by happened first os) ≡ length os
length-pasts_by happened first [] = refl
length-pasts_by happened first (o ∷ os) = omega (arith, length-pasts_by happened (first + 1) os)

pub length-pasts_of : (log : List Entry) → length (pasts_of log) ≡ length (lines.openings log)
length-pasts_of log = length-pasts_by (line_steps log) 1 (lines.openings log)
