-- The entries of a role as laws.
use Rattle.std.specs.Prelude.{ℕ, Bool, ◌-◌, ◌%◌, ◌==◌, nat_lt, if◌then◌else◌, List, [], ◌∷◌, map, take, get_or}
use Rattle.std.specs.List.{flat_map, range_with_len}
use Rattle.std.specs.Borrow.{Bor}
use Rattle.base_codes.specs.declared.deed_code.DeedCode.{DeedCode}
use Rattle.base_codes.specs.DeedCodes.{number_of}
use Rattle.base_codes.specs.declared.slot.TheConstants as slot
use Rattle.base_list.specs.declared.named.Named.{Named}
use Rattle.tab_law.specs.Books.{Laws}
use Rattle.tab_law.specs.declared.limits.TheConstants.{PLACES}
use Rattle.tab_law.specs.declared.law.Atom.{Atom}
use Rattle.tab_law.specs.declared.law.Atom.TheVariants.{Constant, Register, Fact}
use Rattle.tab_law.specs.declared.law.Term.TheVariants.{Just, Sum}
use Rattle.tab_law.specs.declared.law.Test.{Test}
use Rattle.tab_law.specs.declared.law.Test.TheVariants as tests
use Rattle.tab_law.specs.declared.law.Change.{Change}
use Rattle.tab_law.specs.declared.law.Change.TheVariants as changes
use Rattle.tab_role.specs.declared.check.Check.{Check}
use Rattle.tab_role.specs.declared.check.Check.TheVariants as checks
use Rattle.tab_role.specs.declared.step.Services.{Services}
use Rattle.tab_role.specs.declared.step.Services.TheVariants.{OfEvent, OfEventUnwanted, OfMachine}
use Rattle.tab_role.specs.declared.step.ActionStep.{ActionStep}
use Rattle.tab_role.specs.declared.step.ActionStep.TheVariants as steps
use Rattle.tab_role.specs.declared.step.TheConstants.{COUNT, KEPT, ARGUMENTS}

-- a register becomes this
abbrev pub set : ℕ → Atom → Change
set register atom = changes.Set register (Just atom)

-- a register becomes one more
abbrev pub next : ℕ → Change
next register = changes.Set register (Sum (Register register) (Constant 1))

-- a register becomes any number up to the second, from the lesser of both on
abbrev pub pick : ℕ → Atom → Atom → Change
pick register low high = changes.Pick register (Just low) (Just high)

-- a deed with these arguments, of which it has room for 64
abbrev pub deed : DeedCode → List Atom → Change
deed code arguments = changes.Emit (number_of code) (map Just (take PLACES arguments))

-- the same, only where the atom isn't 0
abbrev pub deed_where : Atom → DeedCode → List Atom → Change
deed_where atom code arguments = changes.EmitIf atom (number_of code) (map Just (take PLACES arguments))

-- whether a place is that of the units which a service wants
abbrev pub is_want : ℕ → Bool
is_want n = (n - slot.FIRST) % slot.SIZE == slot.WANT

-- what stands at a place of a message's services
abbrev pub services_argument : Services → ℕ → Atom
services_argument OfEvent n = Fact n
services_argument OfEventUnwanted n = if is_want n then Constant 0 else Fact n
services_argument OfMachine n = Register n

-- what stands at a place of a message: what is told, zeros behind it, and from place 16 on the services with their
-- count
abbrev pub argument : List Atom → Services → ℕ → Atom
argument head services n = if nat_lt n COUNT then get_or head n (Constant 0) else services_argument services n

-- a message: a deed with 49 such arguments (Multiple-Services-Credit-Control, RFC 8506 section 8.16)
abbrev pub message : DeedCode → List Atom → Services → Change
message code head services =
    changes.Emit (number_of code) (map Just (map (argument head services) (range_with_len 0 ARGUMENTS)))

-- the register at a place becomes the fact there
abbrev pub kept : ℕ → Change
kept n = set n (Fact n)

-- the machine keeps the event's services with their count
abbrev pub keep_services : List Change
keep_services = map kept (range_with_len COUNT KEPT)

-- what a step is as changes of a law
abbrev pub changes_of : ActionStep → List Change
changes_of (steps.Set register atom) = set register atom ∷ []
changes_of (steps.Next register) = next register ∷ []
changes_of (steps.Pick register low high) = pick register low high ∷ []
changes_of steps.KeepServices = keep_services
changes_of (steps.Do code arguments) = deed code arguments.now ∷ []
changes_of (steps.DoWhere atom code arguments) = deed_where atom code arguments.now ∷ []
changes_of (steps.Send code head services) = message code head.now services ∷ []

-- the test that a check is
abbrev pub test_of : Check → Test
test_of (checks.Equal field atom) = tests.Equal field atom
test_of (checks.Differing field atom) = tests.Differing field atom
test_of (checks.Below field atom) = tests.Below field atom
test_of (checks.AtLeast field atom) = tests.AtLeast field atom
test_of (checks.Either field one other) = tests.Among field (one ∷ other ∷ [])

-- a kind, a guard and an action under their names
abbrev pub kind : List ℕ → Named (Unit {0})
kind name = record { name = name; value = tt }

abbrev pub guard : List ℕ → Test → Named (List Test)
guard name test = record { name = name; value = test ∷ [] }

abbrev pub act : List ℕ → List Change → Named (List Change)
act name changes = record { name = name; value = changes }

-- the same of the entries of the code
abbrev pub kind_of : Bor (List ℕ) → Named (Unit {0})
kind_of name = kind name.now

abbrev pub guard_of : Bor (List ℕ) × Check → Named (List Test)
guard_of line = guard line.0.now (test_of line.1)

abbrev pub act_of : Bor (List ℕ) × Bor (List ActionStep) → Named (List Change)
act_of line = act line.0.now (flat_map changes_of line.1.now)

-- the laws that the entries of a role are
abbrev pub laws_of : List (Bor (List ℕ))
    → List (Bor (List ℕ) × Check) → List (Bor (List ℕ) × Bor (List ActionStep)) → Laws
laws_of kinds guards acts = record { kinds = map kind_of kinds; guards = map guard_of guards; acts = map act_of acts }
