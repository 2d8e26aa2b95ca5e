-- What a session of a credit-control server asks of the account book.
use Rattle.std.specs.Prelude.{ℕ, ◌+◌, ◌==◌, if◌then◌else◌, List, [], ◌∷◌, Option, Some, None, map, slice_index}
use Rattle.std.specs.List.{slice_get}
use Rattle.std.specs.Option.{option_map}
use Rattle.acct_totals.specs.declared.slot.Slot.{Slot}
use Rattle.base_codes.specs.declared.session_fact.TheConstants as f
use Rattle.base_codes.specs.declared.session_register.TheConstants as r
use Rattle.base_codes.specs.declared.slot.TheConstants as slot
use Rattle.server_rules.specs.declared.kind.ServerKind.{ServerKind}
use Rattle.server_rules.specs.declared.kind.ServerKind.TheVariants.{Tcc}
use Rattle.server_rules.specs.Kinds.{all}
use Rattle.server_rules.specs.Laws.{slot_at}
use Rattle.tab_step.specs.declared.machine.Event.{Event}
use Rattle.tab_step.specs.declared.machine.MachineState.{MachineState}
use Rattle.charge_session.specs.declared.want.ServiceUnits.{ServiceUnits}
use Rattle.charge_session.specs.declared.want.ServiceUnits.TheVariants.{One, Several}
use Rattle.charge_session.specs.declared.want.Want.{Want}

-- the account that the session keeps, or that of the message where it keeps none
abbrev pub account_of : List ℕ → List ℕ → ℕ
account_of facts regs =
    if slice_index regs r.ACCOUNT == 0 then slice_index facts f.ACCOUNT else slice_index regs r.ACCOUNT

-- a group with what it used and wants
abbrev pub slot_of : ℕ → ℕ → ℕ → Slot
slot_of group used want = record { group = group; used = used; want = want }

-- the service of the slot that begins at a place: none where its group is 0
abbrev pub service : List ℕ → ℕ → Option Slot
service facts first =
    if slice_index facts (first + slot.GROUP) == 0 then None
    else Some (slot_of (slice_index facts (first + slot.GROUP)) (slice_index facts (first + slot.USED))
    (slice_index facts (first + slot.WANT)))

-- what an event asks: nothing where the timer fired; what the request used and wants;
-- or what its services did, slot by slot (RFC 8506 section 5.1.2)
abbrev pub asked_by : ServerKind → List ℕ → ServiceUnits
asked_by Tcc facts = One (slot_of 0 0 0)
asked_by kind facts =
    if slice_index facts f.SERVICES == 0 then One (slot_of 0 (slice_index facts f.USED) (slice_index facts f.WANT))
    else Several (map (λ k. service facts (slot_at k)) (1 ∷ 2 ∷ 3 ∷ 4 ∷ []))

-- what an event of this kind asks of the book
abbrev pub want_of : List ℕ → List ℕ → ServerKind → Want
want_of facts regs kind =
    record { account = account_of facts regs; session = slice_index regs r.MACHINE; asked = asked_by kind facts }

-- an event of one of a server's kinds asks something of the book, any other nothing
abbrev pub needs : Event → MachineState → Option Want
needs event state = option_map (want_of event.facts state.regs) (slice_get all event.kind)
