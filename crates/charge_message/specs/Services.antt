-- Instances of Multiple-Services-Credit-Control that a deed with these arguments sends (RFC 8506 section 8.16).
use Rattle.std.specs.Prelude.{ℕ, ◌+◌, ◌*◌, ◌-◌, ◌==◌, ◌&&◌, not, nat_lt, Bool, true, false, List, [], ◌∷◌}
use Rattle.std.specs.Prelude.{◌++◌, if◌then◌else◌, slice_index}
use Rattle.base_codes.specs.declared.avp_code.TheConstants.{RATING_GROUP, RESULT_CODE, REQUESTED_SERVICE_UNIT}
use Rattle.base_codes.specs.declared.avp_code.TheConstants.{USED_SERVICE_UNIT, GRANTED_SERVICE_UNIT}
use Rattle.base_codes.specs.declared.avp_code.TheConstants.{FINAL_UNIT_INDICATION}
use Rattle.base_codes.specs.declared.session_fact.TheConstants as f
use Rattle.base_codes.specs.declared.slot.TheConstants as slot
use Rattle.dia_avp.specs.declared.avp.Avp.{Avp}
use Rattle.dia_avp.specs.Encoding.{encoding}
use Rattle.dia_command.specs.declared.typed.TypedAvp.{TypedAvp}
use Rattle.dia_write.specs.Answer.{made}
use Rattle.charge_message.specs.Avps.{made_avp, number_avp, units_avps, termination}

-- the Rating-Group of a group's number, which is two more; group 1 has none
unfoldable pub rating_avps : ℕ → List Avp
rating_avps group = if group == 1 then [] else number_avp RATING_GROUP (group - 2) ∷ []

-- the Final-Unit-Indication, where units are granted and are the last
unfoldable pub final_avps : ℕ → ℕ → List Avp
final_avps last granted =
    if (last == 1) && not (granted == 0) then made_avp FINAL_UNIT_INDICATION (encoding termination) ∷ [] else []

-- of a request, by the place where the slot begins: what is wanted, what was used, the group
unfoldable pub asked : List ℕ → ℕ → List Avp
asked a first =
    units_avps REQUESTED_SERVICE_UNIT (slice_index a (first + slot.UNIT)) (slice_index a (first + slot.WANT))
    ++ units_avps USED_SERVICE_UNIT (slice_index a (first + slot.UNIT)) (slice_index a (first + slot.USED))
    ++ rating_avps (slice_index a (first + slot.GROUP))

-- of an answer: what is granted, the group, the result, whether it is the last
unfoldable pub answered : List ℕ → ℕ → List Avp
answered a first =
    units_avps GRANTED_SERVICE_UNIT (slice_index a (first + slot.UNIT)) (slice_index a (first + slot.GRANTED))
    ++ rating_avps (slice_index a (first + slot.GROUP))
    ++ number_avp RESULT_CODE (slice_index a (first + slot.RESULT_CODE)) ∷ []
    ++ final_avps (slice_index a (first + slot.FINAL)) (slice_index a (first + slot.GRANTED))

-- of either
abbrev pub avps_by : Bool → List ℕ → ℕ → List Avp
avps_by true a first = asked a first
avps_by false a first = answered a first

-- where a slot begins, by its number from 1
abbrev pub first_of : ℕ → ℕ
first_of k = slot.FIRST + (k - 1) * slot.SIZE

-- whether a slot is sent: there are so many services, and it has a group
unfoldable pub is_sent : List ℕ → ℕ → Bool
is_sent a k = not (nat_lt (slice_index a f.SERVICES) k) && not (slice_index a (first_of k + slot.GROUP) == 0)

-- the instance of a slot, where it is sent
unfoldable pub service : (List ℕ → ℕ → List Avp) → List ℕ → ℕ → List (TypedAvp (List Avp))
service avps_of a k = if is_sent a k then made (avps_of a (first_of k)) ∷ [] else []

-- those of all slots
unfoldable pub services : (List ℕ → ℕ → List Avp) → List ℕ → List (TypedAvp (List Avp))
services avps_of a = service avps_of a 1 ++ service avps_of a 2 ++ service avps_of a 3 ++ service avps_of a 4
