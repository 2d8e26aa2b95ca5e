-- The laws of a client's machine: its guards and its actions, a line each (RFC 8506 section 7,
-- in this project's profile).
use Rattle.std.specs.Prelude.{ℕ, ◌++◌, List, [], ◌∷◌, codes}
use Rattle.base_codes.specs.declared.deed_code.DeedCode.TheVariants as deeds
use Rattle.base_codes.specs.declared.session_fact.TheConstants as f
use Rattle.base_codes.specs.declared.session_register.TheConstants as r
use Rattle.base_list.specs.declared.named.Named.{Named}
use Rattle.tab_law.specs.Books.{Laws}
use Rattle.tab_law.specs.declared.law.Atom.{Atom}
use Rattle.tab_law.specs.declared.law.Atom.TheVariants.{Constant, Register, Fact, NewRegister}
use Rattle.tab_law.specs.declared.law.Field.TheVariants as field
use Rattle.tab_law.specs.declared.law.Test.{Test}
use Rattle.tab_law.specs.declared.law.Test.TheVariants.{Equal, Among}
use Rattle.tab_law.specs.declared.law.Change.{Change}
use Rattle.tab_role.specs.declared.step.Services.{Services}
use Rattle.tab_role.specs.declared.step.Services.TheVariants.{OfEvent, OfEventUnwanted}
use Rattle.tab_role.specs.Entries.{set, next, deed, message, keep_services, guard, act}
use Rattle.client_rules.specs.Kinds.{kinds}

-- a session of this type is opened: what its later requests need is kept, and the first goes to the peer,
-- with the event's services
abbrev pub open_session : ℕ → List Atom → List Change
open_session type behind =
    set r.ACCOUNT (Fact f.ACCOUNT)
    ∷ next r.REQUEST_NUMBER
    ∷ set r.UNIT (Fact f.UNIT)
    ∷ set r.FAILURE_HANDLING (Fact f.FAILURE_HANDLING)
    ∷ set r.REQUEST_TYPE (Constant type)
    ∷ set r.PEER (Fact f.PEER)
    ∷ message deeds.ToPeer
    ((Fact f.PEER ∷ Constant 0 ∷ Register r.MACHINE ∷ Constant 0 ∷ Constant 1 ∷ Constant type
    ∷ NewRegister r.REQUEST_NUMBER ∷ Fact f.ACCOUNT ∷ Constant 0 ∷ Fact f.WANT ∷ Fact f.UNIT ∷ []) ++ behind)
    OfEvent
    ∷ []

-- a later request of this type goes to the peer that is kept, with these units wanted
abbrev pub ask : ℕ → Atom → Services → List Change
ask type want services =
    next r.REQUEST_NUMBER
    ∷ set r.REQUEST_TYPE (Constant type)
    ∷ message deeds.ToPeer
    (Register r.PEER ∷ Constant 0 ∷ Register r.MACHINE ∷ Constant 0 ∷ Constant 1
    ∷ Constant type ∷ NewRegister r.REQUEST_NUMBER ∷ Register r.ACCOUNT ∷ Fact f.USED ∷ want ∷ Register r.UNIT ∷ [])
    services
    ∷ []

-- the service is told: 1 granted, 2 ended
abbrev pub tell : ℕ → List Change
tell told = set r.SERVICE (Constant told) ∷ deed deeds.Service (Constant told ∷ []) ∷ []

-- the guards, in the order of their first appearance in the table
abbrev pub guards : List (Named (List Test))
guards =
    guard (codes "mine") (Equal (field.Fact f.REQUEST_NUMBER) (Register r.REQUEST_NUMBER))
    ∷ guard (codes "success") (Equal (field.Fact f.RESULT_CODE) (Constant 2001))
    ∷ guard (codes "inapplicable") (Equal (field.Fact f.RESULT_CODE) (Constant 4011))
    ∷ guard (codes "denied") (Among (field.Fact f.RESULT_CODE) (4010 ∷ 5030 ∷ []))
    ∷ guard (codes "go-on") (Equal (field.Register r.FAILURE_HANDLING) (Constant 1))
    ∷ guard (codes "cut-off") (Equal (field.Register r.FAILURE_HANDLING) (Constant 0))
    ∷ guard (codes "barred") (Equal (field.Fact f.RESULT_CODE) (Constant 4010))
    ∷ []

-- the actions, in the order of their first appearance in the table
abbrev pub acts : List (Named (List Change))
acts =
    act (codes "Snd-CCR-I") (open_session 1 [])
    ∷ act (codes "Start-Tx") (next r.TIMER ∷ deed deeds.Arm (NewRegister r.TIMER ∷ Constant 10 ∷ []) ∷ [])
    ∷ act (codes "Snd-CCR-E") (open_session 4 (Fact f.ACTION_OR_CHECK ∷ []))
    ∷ act (codes "Take-Grant") ((set r.RESULT_CODE (Fact f.RESULT_CODE) ∷ set r.GRANTED (Fact f.GRANTED)
    ∷ set r.FINAL (Fact f.FINAL) ∷ set r.CHECK (Fact f.ACTION_OR_CHECK) ∷ []) ++ keep_services)
    ∷ act (codes "Stop-Tx") (next r.TIMER ∷ deed deeds.Disarm [] ∷ [])
    ∷ act (codes "Grant-Service") (tell 1)
    ∷ act (codes "End-Service") (tell 2)
    ∷ act (codes "Snd-CCR-U") (ask 2 (Fact f.WANT) OfEvent)
    ∷ act (codes "Snd-CCR-T") (ask 3 (Constant 0) OfEventUnwanted)
    ∷ []

-- the laws of a client's machine
abbrev pub client_laws : Laws
client_laws = record { kinds = kinds; guards = guards; acts = acts }
