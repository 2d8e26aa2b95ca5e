-- What a line sent stays at the front where a step more is taken that opens no line.
use Rattle.std.proofs.Common.{◌≡◌, ◌<◌, ◌≤◌, ◌-◌, ◌++◌, ◌∷◌, ◌∙◌, ◌==◌, ℕ, Bool, true, false, List, [], Option, Some, None, ap, append-nil, arith, length, refl, subst, suc, sym, zero, if◌then◌else◌}
use Rattle.std.specs.Prelude.{drop, min, slice_get, take}
use Rattle.std.proofs.lemmas.Bool.Decides.{nat_tests}
use Rattle.std.proofs.lemmas.Grind.{flat_map-append}
use Rattle.std.proofs.lemmas.List.{append_assoc}
use Rattle.std.proofs.lemmas.Option.{slice_get_within}
use Rattle.bench_item.specs.Lines.{sent_at}
use Rattle.bench_item.specs.Past.{flat_map_after}
use Rattle.bench_item.specs.declared.entry.Entry.{Entry}
use Rattle.bench_item.specs.declared.opening.Opening.{Opening}
use Rattle.bench_net.specs.Events.{Event, Came, Lost}
use Rattle.bench_net.specs.Texts.{Copies, Grows}
use Rattle.bench_net.specs.declared.refusal.Refusal.{Refusal}
use Rattle.bench_net.specs.declared.refusal.Refusal.TheVariants.{Unknown}
use Rattle.node_port.specs.Happened.{RefusesOn, TakesOn, is_number, refusal_of, sent_on, step_on}
use Rattle.bench_spec.specs.Lines.{line_step, line_steps, opened_in, opening_of, openings}
use Rattle.bench_spec.specs.Rules.{rules_at}
use Rattle.bench_spec.specs.Sent.{sent}
use Rattle.bench_spec.specs.Settings.{Settings}
use Rattle.bench_spec.specs.Taken.{Run, fault_of, shown, with_log}
use Rattle.bench_spec.proofs.LineLemmas.{line_steps-snoc}
use Rattle.line_message.specs.Sent.{message_octets}

-- what is given to more items stands behind
after_behind : {X Y : Type 0} (give : List X → X → List Y) (past xs ys : List X)
    → (more : List Y) × (flat_map_after give past (xs ++ ys) ≡ flat_map_after give past xs ++ more)
after_behind give past [] ys = (flat_map_after give past ys, refl)
after_behind give past (x ∷ xs) ys =
    let rest = after_behind give (past ++ x ∷ []) xs ys in
    (rest.0, ap (λ zs. give past x ++ zs) rest.1 ∙ sym (append_assoc (give past x) (flat_map_after give (past ++ x ∷ []) xs) rest.0))

-- an entry that opens no line leaves them
same_openings : (log : List Entry) (e : Entry) → opened_in e ≡ [] → openings (log ++ e ∷ []) ≡ openings log
same_openings log e none =
    flat_map-append opened_in log (e ∷ []) ∙ ap (λ os. openings log ++ os) (append-nil (opened_in e) ∙ none)
    ∙ append-nil (openings log)

same_opening : (log : List Entry) (e : Entry) (line : ℕ) → opened_in e ≡ [] → opening_of (log ++ e ∷ []) line ≡ opening_of log line
same_opening log e line none = ap (λ (os : List Opening). if line == 0 then None else slice_get os (line - 1)) (same_openings log e none)

-- a line that is there has one of the numbers
opened_within : (os : List Opening) (line : ℕ) (o : Opening) → (if line == 0 then None else slice_get os (line - 1)) ≡ Some o → (0 < line) × (line ≤ length os)
opened_within os line o is = by (line == 0) refl is
  where
    by : (b : Bool) → (line == 0) ≡ b → (if b then None else slice_get os (line - 1)) ≡ Some o → (0 < line) × (line ≤ length os)
    by true none is = absurd cc
    by false some is =
        let positive : 0 < line = grind (arith, nat_tests, some) in
        let within : line - 1 < length os = slice_get_within os (line - 1) o is in
        (positive, omega (arith, positive, within))

-- what a line sent, with one more entry that opens none
sent_more : (settings : Settings) (log : List Entry) (e : Entry) (line : ℕ) → opened_in e ≡ []
    → (more : List ℕ) × (sent settings (log ++ e ∷ []) line ≡ sent settings log line ++ more)
sent_more settings log e line none = by (opening_of log line) refl
  where
    by : (o : Option Opening) → opening_of log line ≡ o → (more : List ℕ) × (sent settings (log ++ e ∷ []) line ≡ sent settings log line ++ more)
    by None is = ([], rw (same_opening log e line none, is) refl)
    by (Some o) is =
        let within = opened_within (openings log) line o is in
        let rest = after_behind (sent_at (rules_at settings line) (message_octets settings.identity) o) [] (line_steps log line) (line_step line e) in
        (rest.0, rw (same_opening log e line none, is, line_steps-snoc log e line within.0 within.1) rest.1)

-- neither octets nor a loss open a line
opens_none : (e : Entry) (line : ℕ) (event : Event) → e.step ≡ step_on line event → opened_in e ≡ []
opens_none e line (Came piece) is = rw is refl
opens_none e line Lost is = rw is refl

-- and is the same where nothing changed
pub sent_same : (run : Run) (line : ℕ) → Grows (sent_on run line) (sent_on run line)
sent_same run line = ([], sym (append-nil (if is_number line then (shown run).sent_of line else [])))

-- what a line with a number sent only grows
pub sent_grows : (old new : Run) (line number : ℕ) (event : Event) → number ≡ line → is_number line ≡ true → TakesOn old number event new
    → Grows (sent_on old line) (sent_on new line)
sent_grows old new line number event same is taken =
    let on : TakesOn old line event new = subst (λ (n : ℕ). TakesOn old n event new) same taken in
    let more = sent_more old.settings old.log on.entry line (opens_none on.entry line event on.of_step) in
    let grown : Grows (sent_on old line) (sent_on (with_log old (old.log ++ on.entry ∷ [])) line) = (more.0, rw is more.1) in
    subst (λ (run : Run). Grows (sent_on old line) (sent_on run line)) (sym on.grown) grown

-- the refusal of a line with a number is that of its step
pub refuses_number : (run : Run) (line number : ℕ) (event : Event) (why : Refusal) → number ≡ line → is_number line ≡ true
    → why ≡ refusal_of (fault_of run (step_on number event)) → RefusesOn run line event why
refuses_number run line number event why same is why_is = rw (is, sym same) why_is

-- and without one it is not there
pub refuses_none : (run : Run) (line : ℕ) (event : Event) (why : Refusal) → is_number line ≡ false → why ≡ Unknown → RefusesOn run line event why
refuses_none run line event why is why_is = rw is why_is

-- what is copied of a line with a number is copied of what it sent
pub copies_number : (run : Run) (line number from : ℕ) (buffer : List ℕ) (count : ℕ) → number ≡ line → is_number line ≡ true
    → count ≡ min (length (drop from ((shown run).sent_of number))) (length buffer)
    → take count buffer ≡ take count (drop from ((shown run).sent_of number)) → Copies (sent_on run line) from buffer count
copies_number run line number from buffer count same is many front = rw (is, sym same) (many, front)

abbrev no_octets : List ℕ
no_octets = []

nothing_left : (from : ℕ) → drop from no_octets ≡ no_octets
nothing_left zero = refl
nothing_left (suc n) = refl

-- and of one without, nothing
pub copies_none : (run : Run) (line from : ℕ) (buffer : List ℕ) → is_number line ≡ false → Copies (sent_on run line) from buffer 0
copies_none run line from buffer is =
    let none : 0 ≡ min 0 (length buffer) = omega arith in
    rw (is, nothing_left from) (none, refl)

pub ruleset on_lines = (sent_grows, sent_same, refuses_number, refuses_none, copies_number, copies_none)
