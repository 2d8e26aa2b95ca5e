-- The laws of a server's machine: its guards and its actions, a line each (RFC 8506 section 7,
-- in this project's profile).
use Rattle.std.specs.Prelude.{ℕ, ◌+◌, ◌*◌, ◌-◌, ◌++◌, List, [], ◌∷◌, codes}
use Rattle.base_codes.specs.declared.deed_code.DeedCode.TheVariants as deeds
use Rattle.base_codes.specs.declared.session_fact.TheConstants as f
use Rattle.base_codes.specs.declared.session_register.TheConstants as r
use Rattle.base_codes.specs.declared.slot.TheConstants as slot
use Rattle.base_list.specs.declared.named.Named.{Named}
use Rattle.tab_law.specs.Books.{Laws}
use Rattle.tab_law.specs.declared.law.Atom.{Atom}
use Rattle.tab_law.specs.declared.law.Atom.TheVariants.{Constant, Register, Fact, NewRegister}
use Rattle.tab_law.specs.declared.law.Field.TheVariants as field
use Rattle.tab_law.specs.declared.law.Test.{Test}
use Rattle.tab_law.specs.declared.law.Test.TheVariants.{Equal, Differing, Below, AtLeast}
use Rattle.tab_law.specs.declared.law.Change.{Change}
use Rattle.tab_role.specs.declared.step.Services.TheVariants.{OfMachine}
use Rattle.tab_role.specs.Entries.{set, next, pick, deed, deed_where, message, kept, guard, act}
use Rattle.server_rules.specs.Kinds.{kinds}

-- the request's number and type are kept with this result, and what was granted, checked and served before is cleared
abbrev pub keep : Atom → List Change
keep result =
    set r.REQUEST_NUMBER (Fact f.REQUEST_NUMBER)
    ∷ set r.RESULT_CODE result
    ∷ set r.GRANTED (Constant 0)
    ∷ set r.UNIT (Constant 0)
    ∷ set r.FINAL (Constant 0)
    ∷ set r.CHECK (Constant 0)
    ∷ set r.REQUEST_TYPE (Fact f.REQUEST_TYPE)
    ∷ set r.SERVICES (Constant 0)
    ∷ []

-- where slot k of 1 to 4 begins, in facts and registers alike
abbrev pub slot_at : ℕ → ℕ
slot_at k = slot.FIRST + (k - 1) * slot.SIZE

-- the used units of slot k are paid, where it has a service: where its group isn't 0
abbrev pub pay : ℕ → Change
pay k = deed_where (Fact (slot_at k)) deeds.Debit (Fact (slot_at k + slot.USED) ∷ Fact (slot_at k) ∷ [])

-- slot k is served: its group, unit, result and final are kept, the units granted are picked from 1 to the quote's
-- offer; where it has a service, what was used is paid and what is granted reserved. A slot without a service is so
-- cleared, as its facts are 0
abbrev pub serve : ℕ → List Change
serve k =
    kept (slot_at k)
    ∷ kept (slot_at k + slot.UNIT)
    ∷ kept (slot_at k + slot.RESULT_CODE)
    ∷ kept (slot_at k + slot.FINAL)
    ∷ pick (slot_at k + slot.GRANTED) (Constant 1) (Fact (slot_at k + slot.GRANTED))
    ∷ pay k
    ∷ deed_where (Fact (slot_at k)) deeds.Reserve (NewRegister (slot_at k + slot.GRANTED) ∷ Fact (slot_at k) ∷ [])
    ∷ []

-- the answer that the registers hold goes to the peer, with its services
abbrev pub answer : Change
answer =
    message deeds.ToPeer
    (Fact f.PEER ∷ Fact f.LINE ∷ Fact f.HOP_BY_HOP ∷ Fact f.END_TO_END
    ∷ Constant 2 ∷ Register r.REQUEST_TYPE ∷ Register r.REQUEST_NUMBER ∷ Constant 0 ∷ Constant 0 ∷ Constant 0
    ∷ Register r.UNIT ∷ Register r.CHECK ∷ Register r.RESULT_CODE ∷ Register r.GRANTED ∷ Register r.FINAL ∷ [])
    OfMachine

-- an answer with this result goes to the peer, and nothing is kept of the request
abbrev pub refuse : ℕ → Change
refuse result =
    deed deeds.ToPeer (Fact f.PEER ∷ Fact f.LINE
    ∷ Fact f.HOP_BY_HOP ∷ Fact f.END_TO_END ∷ Constant 2 ∷ Fact f.REQUEST_TYPE
    ∷ Fact f.REQUEST_NUMBER ∷ Constant 0 ∷ Constant 0 ∷ Constant 0 ∷ Constant 0 ∷ Constant 0 ∷ Constant result ∷ [])

-- the guards, in the order of their first appearance in the table
abbrev pub guards : List (Named (List Test))
guards =
    guard (codes "repeat") (Equal (field.Fact f.REQUEST_NUMBER) (Register r.REQUEST_NUMBER))
    ∷ guard (codes "old") (Below (field.Fact f.REQUEST_NUMBER) (Register r.REQUEST_NUMBER))
    ∷ guard (codes "grouped") (AtLeast (field.Fact f.SERVICES) (Constant 1))
    ∷ guard (codes "enough") (Equal (field.Fact f.RESULT_CODE) (Constant 2001))
    ∷ guard (codes "direct") (Equal (field.Fact f.ACTION_OR_CHECK) (Constant 1))
    ∷ guard (codes "whole") (AtLeast (field.Fact f.GRANTED) (Fact f.WANT))
    ∷ guard (codes "refund") (Equal (field.Fact f.ACTION_OR_CHECK) (Constant 2))
    ∷ guard (codes "known") (Differing (field.Fact f.RESULT_CODE) (Constant 5030))
    ∷ guard (codes "check") (Equal (field.Fact f.ACTION_OR_CHECK) (Constant 3))
    ∷ guard (codes "price") (Equal (field.Fact f.ACTION_OR_CHECK) (Constant 4))
    ∷ []

-- the actions, in the order of their first appearance in the table
abbrev pub acts : List (Named (List Change))
acts =
    act (codes "Snd-CCA") (answer ∷ [])
    ∷ act (codes "Snd-5012") (refuse 5012 ∷ [])
    ∷ act (codes "Open-Account") (set r.ACCOUNT (Fact f.ACCOUNT) ∷ [])
    ∷ act (codes "Serve-1") (serve 1)
    ∷ act (codes "Serve-2") (serve 2)
    ∷ act (codes "Serve-3") (serve 3)
    ∷ act (codes "Serve-4") (serve 4)
    ∷ act (codes "Keep-Groups") (keep (Constant 2001) ++ set r.SERVICES (Fact f.SERVICES) ∷ [])
    ∷ act (codes "Start-Tcc") (next r.TIMER ∷ deed deeds.Arm (NewRegister r.TIMER ∷ Constant 600 ∷ []) ∷ [])
    ∷ act (codes "Reserve") (keep (Constant 2001) ++ pick r.GRANTED (Constant 1) (Fact f.GRANTED)
    ∷ set r.UNIT (Fact f.UNIT) ∷ set r.FINAL (Fact f.FINAL) ∷ deed deeds.Reserve (NewRegister r.GRANTED ∷ []) ∷ [])
    ∷ act (codes "Keep-Refusal") (keep (Fact f.RESULT_CODE))
    ∷ act (codes "Snd-5002") (refuse 5002 ∷ [])
    ∷ act (codes "Charge") (keep (Constant 2001)
    ++ set r.GRANTED (Fact f.WANT) ∷ set r.UNIT (Fact f.UNIT) ∷ deed deeds.Charge (Fact f.WANT ∷ []) ∷ [])
    ∷ act (codes "Keep-4012") (keep (Constant 4012))
    ∷ act (codes "Refund") (keep (Constant 2001) ++ deed deeds.Refund (Fact f.WANT ∷ []) ∷ [])
    ∷ act (codes "Check-Yes") (keep (Constant 2001) ++ set r.CHECK (Constant 1) ∷ [])
    ∷ act (codes "Check-No") (keep (Constant 2001) ++ set r.CHECK (Constant 2) ∷ [])
    ∷ act (codes "Keep-5031") (keep (Constant 5031))
    ∷ act (codes "Pay-Groups") (pay 1 ∷ pay 2 ∷ pay 3 ∷ pay 4 ∷ [])
    ∷ act (codes "Release") (deed deeds.Release [] ∷ [])
    ∷ act (codes "Stop-Tcc") (next r.TIMER ∷ deed deeds.Disarm [] ∷ [])
    ∷ act (codes "Close") (set r.ACCOUNT (Constant 0) ∷ [])
    ∷ act (codes "Debit") (deed deeds.Debit (Fact f.USED ∷ []) ∷ [])
    ∷ act (codes "Keep-Success") (keep (Constant 2001))
    ∷ []

-- the laws of a server's machine
abbrev pub server_laws : Laws
server_laws = record { kinds = kinds; guards = guards; acts = acts }
