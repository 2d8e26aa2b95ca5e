-- What a legal log booked is what the account book allows.
use Rattle.std.proofs.Common.{◌≡◌, List, [], ◌∷◌, ◌++◌, Option, Some, None, refl, sym, ◌∙◌, subst}
use Rattle.std.specs.Prelude.{map, zip}
use Rattle.std.proofs.lemmas.List.{append-nil}
use Rattle.acct_book.proofs.NeverOver.{never_over_from_answered}
use Rattle.acct_book.specs.Book.{NeverOver, Opened, outcome_of}
use Rattle.acct_book.specs.Laws.{EachAfter}
use Rattle.acct_totals.specs.declared.op.Booked.{Booked}
use Rattle.acct_totals.specs.declared.op.Op.{Op}
use Rattle.acct_totals.specs.declared.op.Outcome.{Outcome}
use Rattle.charge_session.specs.declared.want.Want.{Want}
use Rattle.tab_law.specs.declared.scene.Deed.{Deed}
use Rattle.bench_item.specs.declared.entry.Entry.{Entry}
use Rattle.bench_item.specs.declared.entry.Handled.{Handled}
use Rattle.bench_item.specs.declared.entry.Moved.{Moved}
use Rattle.bench_item.specs.declared.entry.Handled.TheVariants.{TooBusy, Stale, Move}
use Rattle.bench_item.specs.declared.item.Item.{Item}
use Rattle.bench_item.specs.declared.item.Item.TheVariants.{ToMachine, ToLine, Dial, Undial, Arm, Disarm}
use Rattle.bench_item.specs.declared.item.MachineItem.{MachineItem}
use Rattle.bench_item.specs.declared.step.Step.{Step}
use Rattle.bench_item.specs.declared.step.Step.TheVariants.{Joined, Dialled, Came, Lost, Told, Fired, Lift, Drop, Work}
use Rattle.bench_spec.specs.Booked.{book_at, booked, booked_by, booked_in, ops_of, outcomes_for, outcomes_of, want_of}
use Rattle.bench_spec.specs.Legal.{HasParts, IsBookAnswered, IsLegal, MayFollow, MovesNext}
use Rattle.bench_spec.specs.Settings.{Settings}
use Rattle.bench_spec.proofs.AfterLemmas.{EachAfter-append, flat_map-snoc}

-- the outcome is the one that the book of these accounts allows after what was booked
abbrev pub IsAllowed : List Opened → List Booked → Booked → Type 0
IsAllowed accounts past b = b.outcome ≡ outcome_of (record { accounts = accounts; journal = past }) b.op

-- operations with the outcomes that the book allows, one after the other
abbrev with_outcomes : List Op → List Outcome → List Booked
with_outcomes ops outcomes = map (λ p. record { op = p.0; outcome = p.1 }) (zip ops outcomes)

allowed_each : (accounts : List Opened) (journal : List Booked) (ops : List Op)
    → EachAfter (IsAllowed accounts) journal
    (with_outcomes ops (outcomes_of (record { accounts = accounts; journal = journal }) ops))
allowed_each accounts journal [] = tt
allowed_each accounts journal (op ∷ ops) = (
  refl,
  allowed_each accounts
      (journal ++ record { op = op; outcome = outcome_of (record { accounts = accounts; journal = journal }) op } ∷ [])
      ops,
)

allowed_for : (accounts : List Opened) (journal : List Booked) (want : Option Want) (deeds : List Deed)
    (outcomes : List Outcome) → outcomes ≡ outcomes_for (record { accounts = accounts; journal = journal }) want deeds
    → EachAfter (IsAllowed accounts) journal (with_outcomes (ops_of want deeds) outcomes)
allowed_for accounts journal None deeds outcomes same = tt
allowed_for accounts journal (Some want) deeds outcomes same =
    subst (λ os. EachAfter (IsAllowed accounts) journal (with_outcomes (ops_of (Some want) deeds) os)) (sym same)
    (allowed_each accounts journal (ops_of (Some want) deeds))

-- one move
move_allowed : (settings : Settings) (past : List Entry) (item : MachineItem) (moved : Moved)
    → MovesNext settings past item moved
    → EachAfter (IsAllowed settings.accounts) (booked settings.node.laws past)
    ((booked_by settings.node.laws item moved ++ []) ++ [])
move_allowed settings past item moved next =
    subst (EachAfter (IsAllowed settings.accounts) (booked settings.node.laws past))
    (sym (append-nil (booked_by settings.node.laws item moved ++ [])
    ∙ append-nil (booked_by settings.node.laws item moved)))
    (allowed_for settings.accounts (booked settings.node.laws past) (want_of settings.node.laws item moved.before)
    moved.deeds moved.outcomes next.outcomes)

-- an entry whose item moved its machine is one of work
abbrev pub entry_of : Step → Option Item → Option Handled → Entry
entry_of step item handled = record { step = step; item = item; handled = handled }

abbrev IsThere : Option Handled → Type 0
IsThere None = ⊥
IsThere (Some h) = Unit {0}

not_none : (h : Handled) → Some h ≡ None → ⊥
not_none h same = subst IsThere same tt

pub moves_next : (settings : Settings) (past : List Entry) (step : Step) (item : MachineItem) (moved : Moved)
    → HasParts settings past (entry_of step (Some (ToMachine item)) (Some (Move moved)))
    → MovesNext settings past item moved
moves_next settings past Joined item moved parts = absurd (not_none (Move moved) parts.1)
moves_next settings past (Dialled l) item moved parts = absurd (not_none (Move moved) parts.1)
moves_next settings past (Came l p) item moved parts = absurd (not_none (Move moved) parts.1)
moves_next settings past (Lost l) item moved parts = absurd (not_none (Move moved) parts.1)
moves_next settings past (Told d k e) item moved parts = absurd (not_none (Move moved) parts.1)
moves_next settings past (Fired m g) item moved parts = absurd (not_none (Move moved) parts.1)
moves_next settings past (Lift s) item moved parts = absurd (not_none (Move moved) parts.1)
moves_next settings past (Drop s) item moved parts = absurd (not_none (Move moved) parts.1)
moves_next settings past (Work s) item moved parts = parts.2

-- one entry
entry_allowed : (settings : Settings) (past : List Entry) (step : Step) (item : Option Item) (handled : Option Handled)
    → HasParts settings past (entry_of step item handled)
    → EachAfter (IsAllowed settings.accounts) (booked settings.node.laws past)
    (booked_in settings.node.laws (entry_of step item handled))
entry_allowed settings past step item None parts = tt
entry_allowed settings past step item (Some TooBusy) parts = tt
entry_allowed settings past step item (Some (Stale state)) parts = tt
entry_allowed settings past step None (Some (Move moved)) parts = tt
entry_allowed settings past step (Some (ToMachine item)) (Some (Move moved)) parts =
    move_allowed settings past item moved (moves_next settings past step item moved parts)
entry_allowed settings past step (Some (ToLine item)) (Some (Move moved)) parts = tt
entry_allowed settings past step (Some (Dial p g)) (Some (Move moved)) parts = tt
entry_allowed settings past step (Some (Undial p g)) (Some (Move moved)) parts = tt
entry_allowed settings past step (Some (Arm m g t)) (Some (Move moved)) parts = tt
entry_allowed settings past step (Some (Disarm m)) (Some (Move moved)) parts = tt

-- what the log books with one more entry
pub booked-snoc : (settings : Settings) (log : List Entry) (e : Entry)
    → booked settings.node.laws (log ++ e ∷ []) ≡ booked settings.node.laws log ++ booked_in settings.node.laws e
booked-snoc settings log e = flat_map-snoc (booked_in settings.node.laws) log e

all_allowed : (settings : Settings) (past log : List Entry) → EachAfter (MayFollow settings) past log
    → EachAfter (IsAllowed settings.accounts) (booked settings.node.laws past) (booked settings.node.laws log)
all_allowed settings past [] legal = tt
all_allowed settings past (e ∷ log) legal =
    EachAfter-append (IsAllowed settings.accounts) (booked settings.node.laws past) (booked_in settings.node.laws e)
    (booked settings.node.laws log)
    (entry_allowed settings past e.step e.item e.handled legal.0.parts)
    (subst (λ js. EachAfter (IsAllowed settings.accounts) js (booked settings.node.laws log))
    (booked-snoc settings past e) (all_allowed settings (past ++ e ∷ []) log legal.1))

-- all outcomes of a legal log are the ones that the book allows, so of no account is more reserved and debited than was
-- given
pub IsLegal-answered : (settings : Settings) (log : List Entry) → IsLegal settings log → IsBookAnswered settings log
IsLegal-answered settings log legal = all_allowed settings [] log legal

pub IsLegal-never_over : (settings : Settings) (log : List Entry) → IsLegal settings log
    → NeverOver (book_at settings log)
IsLegal-never_over settings log legal =
    never_over_from_answered settings.accounts (booked settings.node.laws log) (IsLegal-answered settings log legal)
