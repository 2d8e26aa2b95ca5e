-- Laws of the book, over whole journals.
use Rattle.std.specs.Prelude.{◌≡◌, ℕ, List, [], ◌∷◌, ◌++◌, ◌==◌, Bool, not, ◌&&◌}
use Rattle.std.specs.Prelude.{if◌then◌else◌, sum_by, filter, Option, None, Some}
use Rattle.std.specs.List.{filter_map}
use Rattle.acct_totals.specs.declared.op.Op.{Op}
use Rattle.acct_totals.specs.declared.op.Op.TheVariants.{Reserve}
use Rattle.acct_totals.specs.declared.op.Booked.{Booked}
use Rattle.acct_book.specs.declared.holder.Holder.{Holder}
use Rattle.acct_book.specs.Sums.{own, own_all, reserved}
use Rattle.acct_book.specs.Stored.{holder_eq}
use Rattle.acct_book.specs.Book.{Opened, outcome_of, NeverOver}

-- the fact holds of each item and those before it
abbrev pub EachAfter : {X : Type 0} → (List X → X → Type 0) → List X → List X → Type 0
EachAfter P past [] = Unit {0}
EachAfter P past (x ∷ xs) = P past x × EachAfter P (past ++ x ∷ []) xs

-- each outcome of the journal is the one that the book allows after those before it
abbrev pub IsAnswered : List Opened → List Booked → Type 0
IsAnswered accounts journal =
    EachAfter (λ past b. b.outcome ≡ outcome_of (record { accounts = accounts; journal = past }) b.op) [] journal

-- a journal that is so answered never reserves and debits more of an account than was given
abbrev pub AnsweredNeverOver : Type 0
AnsweredNeverOver =
    (accounts : List Opened) (journal : List Booked) → IsAnswered accounts journal
    → NeverOver (record { accounts = accounts; journal = journal })

-- whose reservation a Reserve adds to, where it passes the test
abbrev pub holder_where : (ℕ → ℕ → ℕ → Bool) → Booked → Option Holder
holder_where test b = of b.op
  where
    of : Op → Option Holder
    of (Reserve a s g n) = if test a s g then Some (record { account = a; session = s; group = g }) else None
    of op = None

-- the holders, each once, where it stands first
abbrev pub distinct : List Holder → List Holder
distinct [] = []
distinct (h ∷ hs) = h ∷ filter (λ k. not (holder_eq h k)) (distinct hs)

-- the sum of the reservations that pass the test, over all for whom units were ever asked, each once
abbrev pub sum_of_own : (ℕ → ℕ → ℕ → Bool) → List Booked → ℕ
sum_of_own test journal =
    sum_by (λ (h : Holder). own h.account h.session h.group journal) (distinct (filter_map (holder_where test) journal))

-- what is reserved on an account is the sum of the reservations over all sessions and groups
abbrev pub ReservedIsSumOfOwn : Type 0
ReservedIsSumOfOwn =
    (account : ℕ) (journal : List Booked) → reserved account journal ≡ sum_of_own (λ a s g. a == account) journal

-- what is reserved in a session is the sum of its reservations over all groups
abbrev pub SessionIsSumOfOwn : Type 0
SessionIsSumOfOwn =
    (account session : ℕ) (journal : List Booked)
    → own_all account session journal ≡ sum_of_own (λ a s g. (a == account) && (s == session)) journal
