-- Requests of one direction, their answers, and the times between.
use Rattle.std.specs.Prelude.{ℕ, ◌-◌, List, [], Option, None, Some, if◌then◌else◌, length, nat_eq, nat_lt, replicate}
use Rattle.std.specs.Map.{lookup}
use Rattle.indexmap.specs.IndexMap.{insert_entry, swap_remove_entry}
use Rattle.base_times.specs.Buckets.{bucket_of}
use Rattle.base_times.specs.Counts.{counted_at, more}
use Rattle.base_times.specs.Percentiles.{no_counts}
use Rattle.live_stats.specs.declared.flow.TheConstants.{CODES, MAX_UNANSWERED}

-- how many requests there were; how many answers by Result-Code, and how many with another one; the moments of the
-- requests that have no answer yet; how many of the times from a request to its answer fell into each bucket
pub record Exchange : Type 0 where
  pub requests : ℕ
  pub answers : List ℕ
  pub others : ℕ
  pub waiting : List (ℕ × ℕ)
  pub times : List ℕ

-- none
unfoldable pub no_exchange : Exchange
no_exchange =
    record { requests = 0; answers = replicate CODES 0; others = 0; waiting = []; times = no_counts }

-- a request waits from a moment on; where as many wait as may, these are forgotten
abbrev pub waiting_with : List (ℕ × ℕ) → (key moment : ℕ) → List (ℕ × ℕ)
waiting_with waiting key moment =
    insert_entry nat_eq (if nat_lt (length waiting) MAX_UNANSWERED then waiting else []) key moment

-- the times with the one from a moment on, if there is one
abbrev pub timed : List ℕ → Option ℕ → (moment : ℕ) → List ℕ
timed times None moment = times
timed times (Some from) moment = counted_at times (bucket_of (moment - from))

-- a request was made at a moment
abbrev pub requested : Exchange → (key moment : ℕ) → Exchange
requested it key moment = record it {
  requests = more it.requests;
  waiting = waiting_with it.waiting key moment;
}

-- the answers by Result-Code, and the others
abbrev pub answers_with : List ℕ → (code : ℕ) → List ℕ
answers_with answers code = if nat_lt code CODES then counted_at answers code else answers

abbrev pub others_with : (others code : ℕ) → ℕ
others_with others code = if nat_lt code CODES then others else more others

-- an answer was made at a moment
abbrev pub answered : Exchange → (key code moment : ℕ) → Exchange
answered it key code moment = record it {
  answers = answers_with it.answers code;
  others = others_with it.others code;
  waiting = swap_remove_entry (nat_eq key) it.waiting;
  times = timed it.times (lookup (nat_eq key) it.waiting) moment;
}

-- all is counted anew; what waits goes on waiting
abbrev pub at_rest : Exchange → Exchange
at_rest it = record no_exchange { waiting = it.waiting }
