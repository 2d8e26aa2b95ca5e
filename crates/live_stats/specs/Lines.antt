-- The text of a line: names and numbers.
use Rattle.std.specs.Prelude.{ℕ, ◌++◌, ◌+◌, ◌-◌, ◌*◌, ◌/◌, ◌^◌, ◌==◌, List, [], ◌∷◌, Option, None, Some, codes}
use Rattle.std.specs.Prelude.{decimal, if◌then◌else◌}
use Rattle.std.specs.Prelude.{length, max, min, slice_get}
use Rattle.base_times.specs.Percentiles.{percentile_of}
use Rattle.live_stats.specs.declared.stats.Sums.{Sums}
use Rattle.live_stats.specs.Exchanges.{Exchange}
use Rattle.live_stats.specs.Tallies.{Tally}

-- how many a second so many are in so many microseconds; a span of none counts as one
abbrev pub rate_of : (count micros : ℕ) → ℕ
rate_of count micros = min (count * 1000000 / max micros 1) (2 ^ 64 - 1)

-- the text of each number of a list with its place, from a place on
abbrev pub numbered : (ℕ → ℕ → List ℕ) → (place : ℕ) → List ℕ → List ℕ
numbered text place [] = []
numbered text place (number ∷ numbers) = text place number ++ numbered text (place + 1) numbers

-- a percentile of times, `-` where there are none
abbrev pub percentile_text : (side name : List ℕ) → Option ℕ → List ℕ
percentile_text side name (Some time) = side ++ name ++ decimal time
percentile_text side name None = side ++ name ++ codes "-"

-- what is counted of the requests of one direction
unfoldable pub flow_text : (side : List ℕ) → Exchange → (micros : ℕ) → List ℕ
flow_text side it micros =
    side ++ codes "requests " ++ decimal it.requests
    ++ side ++ codes "rate " ++ decimal (rate_of it.requests micros)
    ++ side ++ codes "waiting " ++ decimal (length it.waiting)
    ++ percentile_text side (codes "median ") (percentile_of it.times 50)
    ++ percentile_text side (codes "99th ") (percentile_of it.times 99)

-- how many answers have a Result-Code, where some have
unfoldable pub code_text : (side : List ℕ) → (code count : ℕ) → List ℕ
code_text side code count = if count == 0 then [] else side ++ decimal code ++ codes " " ++ decimal count

abbrev pub codes_text : (side : List ℕ) → List ℕ → List ℕ
codes_text side counts = numbered (code_text side) 0 counts

-- how many have one that isn't counted alone, where some have
abbrev pub others_text : (side : List ℕ) → (count : ℕ) → List ℕ
others_text side count = if count == 0 then [] else side ++ codes "other " ++ decimal count

-- how many answers have which Result-Code
unfoldable pub answers_text : (side : List ℕ) → Exchange → List ℕ
answers_text side it = codes_text side it.answers ++ others_text side it.others

-- how many peers stand in a state, where some do
abbrev pub name_of : Option (List ℕ) → List ℕ
name_of None = []
name_of (Some name) = name

unfoldable pub state_text : List (List ℕ) → (state count : ℕ) → List ℕ
state_text states state count =
    if count == 0 then [] else codes " peers." ++ name_of (slice_get states state) ++ codes " " ++ decimal count

abbrev pub states_text : List (List ℕ) → List ℕ → List ℕ
states_text states counts = numbered (state_text states) 0 counts

-- the second, the open sessions, and what stands on all accounts together
unfoldable pub standing_text : (sessions moment : ℕ) → Sums → List ℕ
standing_text sessions moment sums =
    codes "second " ++ decimal (moment / 1000000)
    ++ codes " sessions " ++ decimal sessions
    ++ codes " reserved " ++ decimal sums.reserved
    ++ codes " debited " ++ decimal sums.debited

-- the numbers that each line has
abbrev pub numbers_text : Tally → (moment : ℕ) → Sums → List ℕ
numbers_text t moment sums =
    standing_text t.sessions moment sums
    ++ flow_text (codes " in.") t.inward (moment - t.began)
    ++ flow_text (codes " out.") t.outward (moment - t.began)

-- the numbers that a line has where they aren't 0
abbrev pub counts_text : Tally → List ℕ
counts_text t =
    states_text t.states t.peers ++ answers_text (codes " in.") t.inward ++ answers_text (codes " out.") t.outward
    ++ codes "\n"

abbrev pub line_text : Tally → (moment : ℕ) → Sums → List ℕ
line_text t moment sums = numbers_text t moment sums ++ counts_text t
