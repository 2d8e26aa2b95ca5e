-- AVPs of credit control that this node writes: without vendor, with flag M (RFC 8506 section 8).
use Rattle.std.specs.Prelude.{ℕ, ◌==◌, true, false, List, [], ◌∷◌, Option, None, Some, if◌then◌else◌, decimal}
use Rattle.byteorder.specs.Endian.{big_bytes}
use Rattle.base_codes.specs.declared.avp_code.TheConstants.{CC_TIME, CC_TOTAL_OCTETS, CC_SERVICE_SPECIFIC_UNITS}
use Rattle.base_codes.specs.declared.avp_code.TheConstants.{FINAL_UNIT_ACTION, SUBSCRIPTION_ID_TYPE}
use Rattle.base_codes.specs.declared.avp_code.TheConstants.{SUBSCRIPTION_ID_DATA}
use Rattle.deed_message.specs.Headers.{lowest}
use Rattle.dia_avp.specs.declared.avp.Avp.{Avp}
use Rattle.dia_avp.specs.Encoding.{encoding}
use Rattle.dia_command.specs.declared.typed.TypedAvp.{TypedAvp}
use Rattle.dia_write.specs.Answer.{made}

-- an AVP with these data
abbrev pub made_avp : ℕ → List ℕ → Avp
made_avp code octets = record { code = code; vendor = None; mandatory = true; protected = false; octets = octets }

-- an AVP with a number of four octets, modulo 2 ^ 32
unfoldable pub number_avp : ℕ → ℕ → Avp
number_avp code number = made_avp code (big_bytes 4 (lowest number))

-- so many of a unit: CC-Time for unit 1, CC-Service-Specific-Units for 3, and CC-Total-Octets for 2 and all others
unfoldable pub amount_avp : ℕ → ℕ → Avp
amount_avp unit units =
    if unit == 1 then number_avp CC_TIME units
    else if unit == 3 then made_avp CC_SERVICE_SPECIFIC_UNITS (big_bytes 8 units)
    else made_avp CC_TOTAL_OCTETS (big_bytes 8 units)

-- a group that tells an amount, and none where it is 0: in a message itself, and in a service
unfoldable pub units_field : ℕ → ℕ → Option (TypedAvp (List Avp))
units_field unit units = if units == 0 then None else Some (made (amount_avp unit units ∷ []))

unfoldable pub units_avps : ℕ → ℕ → ℕ → List Avp
units_avps code unit units = if units == 0 then [] else made_avp code (encoding (amount_avp unit units ∷ [])) ∷ []

-- what a Final-Unit-Indication holds: the service is to be terminated, Final-Unit-Action 0
unfoldable pub termination : List Avp
termination = number_avp FINAL_UNIT_ACTION 0 ∷ []

-- the Subscription-Id of an account: type 0, END_USER_E164, and its number in decimal
unfoldable pub subscription : ℕ → List Avp
subscription account = number_avp SUBSCRIPTION_ID_TYPE 0 ∷ made_avp SUBSCRIPTION_ID_DATA (decimal account) ∷ []
