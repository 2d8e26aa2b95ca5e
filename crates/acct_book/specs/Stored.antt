-- The reservations as they are kept, with no list: what stands at each holder and session, and what an operation writes
-- over.
use Rattle.std.specs.Prelude.{◌<◌, ◌≤◌, ◌+◌, ◌-◌, ◌^◌, ℕ, ◌==◌, Bool, ◌&&◌, nat_lt}
use Rattle.std.specs.Prelude.{if◌then◌else◌, Option, None, Some, IsSome, unwrap_or}
use Rattle.indexmap.specs.IndexMap.{get}
use Rattle.acct_totals.specs.declared.op.Op.{Op}
use Rattle.acct_totals.specs.declared.op.Op.TheVariants.{Reserve, Debit, Release}
use Rattle.acct_totals.specs.declared.op.Outcome.{Outcome}
use Rattle.acct_book.specs.declared.holder.Holder.{Holder}
use Rattle.acct_book.specs.declared.holder.Session.{Session}
use Rattle.acct_book.specs.declared.holds.Held.{Held}
use Rattle.acct_book.specs.declared.holds.Rounds.{Rounds}
use Rattle.acct_book.specs.declared.holds.Before.{Before}
use Rattle.acct_book.specs.declared.holds.Holds.{Holds}
use Rattle.acct_totals.specs.Amounts.{amount_of}

-- the two are one holder, as `==` compares them
abbrev pub holder_eq : Holder → Holder → Bool
holder_eq h k = (h.account == k.account) && ((h.session == k.session) && (h.group == k.group))

-- the two are one session, as `==` compares them
abbrev pub session_eq : Session → Session → Bool
session_eq s t = (s.account == t.account) && (s.session == t.session)

-- the holder's session
abbrev pub session_of : Holder → Session
session_of h = record { account = h.account; session = h.session }

-- what is kept at each holder and at each session
pub record Stored : Type 0 where
  pub at : Holder → Held
  pub of : Session → Rounds

-- a reservation that was never written
abbrev pub never : Held
never = record { amount = 0; round = 0 }

-- a session without reservations
abbrev pub unused : Rounds
unused = record { total = 0; over = 0 }

abbrev pub nothing : Stored
nothing = record { at = λ h. never; of = λ s. unused }

-- what the two maps hold
abbrev pub stored_of : Holds → Stored
stored_of m = record {
  at = λ h. unwrap_or (get holder_eq m.reservations h) never;
  of = λ s. unwrap_or (get session_eq m.sessions s) unused;
}

-- each reservation that has a place has one for its session
abbrev pub IsPlaced : Holds → Type 0
IsPlaced m = (h : Holder) → IsSome (get holder_eq m.reservations h) → IsSome (get session_eq m.sessions (session_of h))

-- a reservation stands while the round in which it was written isn't over
abbrev pub standing_in : Rounds → Held → ℕ
standing_in rounds held = if nat_lt rounds.over held.round then held.amount else 0

-- what a holder has
abbrev pub standing : Stored → Holder → ℕ
standing s h = standing_in (s.of (session_of h)) (s.at h)

-- the same, but for one reservation
abbrev pub with_held : Stored → Holder → Held → Stored
with_held s h held = record { at = λ k. if holder_eq h k then held else s.at k; of = s.of }

-- the same, but for one session
abbrev pub with_rounds : Stored → Session → Rounds → Stored
with_rounds s t rounds = record { at = s.at; of = λ k. if session_eq t k then rounds else s.of k }

-- what is kept at a holder and its session
abbrev pub before_of : Stored → Holder → Before
before_of s h = record { held = s.at h; rounds = s.of (session_of h) }

-- after more is reserved, with what was written over
abbrev pub added : Stored → Holder → ℕ → Stored × Option Before
added s h n =
    if n == 0 then (s, None)
    else (
      with_rounds (with_held s h (record { amount = standing s h + n; round = (s.of (session_of h)).over + 1 }))
          (session_of h)
          (record { total = (s.of (session_of h)).total + n; over = (s.of (session_of h)).over }),
      Some (before_of s h),
    )

-- after a reservation ended, with what was written over
abbrev pub ended_of : Stored → Holder → Stored × Option Before
ended_of s h =
    if standing s h == 0 then (s, None)
    else (
      with_rounds (with_held s h (record { amount = 0; round = (s.at h).round })) (session_of h)
          (record { total = (s.of (session_of h)).total - standing s h; over = (s.of (session_of h)).over }),
      Some (before_of s h),
    )

-- after all reservations of a session ended, with what was written over
abbrev pub all_ended_of : Stored → Session → Stored × Option Before
all_ended_of s t =
    if (s.of t).total == 0 then (s, None)
    else (
      with_rounds s t (record { total = 0; over = (s.of t).over + 1 }),
      Some (record { held = never; rounds = s.of t }),
    )

-- after an operation with its outcome, with what was written over
abbrev pub step_of : Stored → Op → Outcome → Stored × Option Before
step_of st (Reserve a s g n) outcome = added st (record { account = a; session = s; group = g }) (amount_of outcome)
step_of st (Debit a s g n) outcome = ended_of st (record { account = a; session = s; group = g })
step_of st (Release a s) outcome = all_ended_of st (record { account = a; session = s })
step_of st op outcome = (st, None)

-- with what an operation wrote over put back
abbrev pub undone : Stored → Op → Option Before → Stored
undone st (Reserve a s g n) (Some b) =
    with_rounds (with_held st (record { account = a; session = s; group = g }) b.held)
    (record { account = a; session = s }) b.rounds
undone st (Debit a s g n) (Some b) =
    with_rounds (with_held st (record { account = a; session = s; group = g }) b.held)
    (record { account = a; session = s }) b.rounds
undone st (Release a s) (Some b) = with_rounds st (record { account = a; session = s }) b.rounds
undone st op before = st

-- what an operation with its outcome needs so that its sums fit
abbrev pub CanCarryOut : Stored → Op → Outcome → Type 0
CanCarryOut st (Reserve a s g n) outcome =
    (standing st (record { account = a; session = s; group = g }) + amount_of outcome < 2 ^ 64)
    × (((st.of (record { account = a; session = s })).total + amount_of outcome < 2 ^ 64)
    × ((st.of (record { account = a; session = s })).over < 2 ^ 63))
CanCarryOut st (Debit a s g n) outcome =
    standing st (record { account = a; session = s; group = g }) ≤ (st.of (record { account = a; session = s })).total
CanCarryOut st (Release a s) outcome = (st.of (record { account = a; session = s })).over < 2 ^ 63
CanCarryOut st op outcome = Unit {0}
