-- What happened to each line of a log, and what lines are that stand for it.
use Rattle.std.specs.Prelude.{◌≡◌, ℕ, ◌+◌, List, [], ◌∷◌, ◌++◌, Option, Some, None, option_map}
use Rattle.std.specs.Option.{option_map_or}
use Rattle.bench_item.specs.declared.entry.Entry.{Entry}
use Rattle.bench_item.specs.declared.item.Item.{Item}
use Rattle.bench_item.specs.declared.opening.Opening.{Opening}
use Rattle.bench_item.specs.declared.line_state.LineState.{LineState}
use Rattle.bench_item.specs.Lines.{LineStep, sent_of, state_of}
use Rattle.bench_line.specs.Line.{EachCanCome, LineView, Stands}
use Rattle.bench_line.specs.Lines.{Past, line_at}
use Rattle.bench_line.specs.Talk.{Meaning, rules_of}
use Rattle.bench_spec.specs.Lines.{line_step, line_steps, opening_of, openings}

abbrev pub past_of : Opening → List LineStep → Past
past_of opening happened = record { opening = opening; happened = happened }

-- openings with what happened to each, by its number; the first has this number
abbrev pub pasts_by : (ℕ → List LineStep) → ℕ → List Opening → List Past
pasts_by happened line [] = []
pasts_by happened line (opening ∷ others) = past_of opening (happened line) ∷ pasts_by happened (line + 1) others

-- how each line of a log was opened, and what happened to it since: line 1 is the first
abbrev pub pasts_of : List Entry → List Past
pasts_of log = pasts_by (line_steps log) 1 (openings log)

-- the same of the line of a number, if it is there
abbrev pub past_in : List Entry → ℕ → Option Past
past_in log line = option_map (λ opening. past_of opening (line_steps log line)) (opening_of log line)

-- more steps behind what happened to each, by its number; the first has this number
abbrev pub with_steps : (ℕ → List LineStep) → ℕ → List Past → List Past
with_steps new line [] = []
with_steps new line (past ∷ pasts) = past_of past.opening (past.happened ++ new line) ∷ with_steps new (line + 1) pasts

-- a line that stands for what happened to it, or none of either
abbrev pub StandsAt : Meaning → ℕ → Option LineView → Option Past → Type 0
StandsAt m line None None = Unit {0}
StandsAt m line (Some l) (Some past) = Stands m line l past.opening past.happened
StandsAt m line l past = ⊥

-- all that a line put out
abbrev pub outbox_on : List LineView → ℕ → List Item
outbox_on lines line = option_map_or (λ l. l.outbox) (line_at lines line) []

-- where a line stands, if there is one of that number, what it has put out and what it has sent,
-- by what messages mean to it
abbrev pub line_state_by : Meaning → List Entry → ℕ → Option LineState
line_state_by m log line =
    option_map (λ opening. state_of (rules_of m line) opening (line_steps log line)) (opening_of log line)

abbrev pub line_posts_by : Meaning → List Entry → ℕ → List Item
line_posts_by m log line =
    option_map_or (λ opening. (rules_of m line).posts opening (line_steps log line)) (opening_of log line) []

abbrev pub line_sent_by : Meaning → List Entry → ℕ → List ℕ
line_sent_by m log line =
    option_map_or (λ opening. sent_of (rules_of m line) m.octets_of opening (line_steps log line))
    (opening_of log line) []

-- to each line of the log the steps may come that one more entry is to it
abbrev pub EachMayCome : Meaning → List Entry → Entry → Type 0
EachMayCome m log e =
    (line : ℕ) (opening : Opening) → opening_of log line ≡ Some opening
    → EachCanCome (rules_of m line) opening (line_steps log line) (line_step line e)
