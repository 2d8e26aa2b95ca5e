-- Names by number, as the standards have them.
use Rattle.std.specs.Prelude.{ℕ, ◌==◌, Bool, List, [], ◌∷◌, ◌++◌, length, codes, if◌then◌else◌}
use Rattle.std.specs.Option.{option_map_or}
use Rattle.std.specs.List.{find}
use Rattle.base_codes.specs.CommandCodes.{coded, name_of}
use Rattle.base_codes.specs.declared.command_code.CommandCode.{CommandCode}
use Rattle.base_codes.specs.declared.command_code.CommandCode.TheVariants.{CapabilitiesExchange, ReAuth, CreditControl}
use Rattle.base_codes.specs.declared.command_code.CommandCode.TheVariants.{DeviceWatchdog, DisconnectPeer}

-- what a table has for a number, the empty list where it has nothing
unfoldable pub entry_in : {X : Type 0} → List (ℕ × List X) → ℕ → List X
entry_in table number = option_map_or (λ entry. entry.1) (find (λ entry. entry.0 == number) table) []

-- commands of RFC 6733 section 3.1 that this project doesn't read, by Command Code
abbrev pub other_commands : List (ℕ × List ℕ)
other_commands =
    (271, codes "Accounting")
    ∷ (274, codes "Abort-Session")
    ∷ (275, codes "Session-Termination")
    ∷ []

-- their abbreviations, without the last letter
abbrev pub other_letters : List (ℕ × List ℕ)
other_letters = (271, codes "AC") ∷ (274, codes "AS") ∷ (275, codes "ST") ∷ []

-- a command's abbreviation without its last letter
abbrev pub letters_of : CommandCode → List ℕ
letters_of CapabilitiesExchange = codes "CE"
letters_of ReAuth = codes "RA"
letters_of CreditControl = codes "CC"
letters_of DeviceWatchdog = codes "DW"
letters_of DisconnectPeer = codes "DP"

-- a command's name without Request or Answer (RFC 6733 section 3.1, RFC 8506 section 3)
abbrev pub command_name : ℕ → List ℕ
command_name number = option_map_or name_of (coded number) (entry_in other_commands number)

-- its abbreviation without the last letter
abbrev pub command_letters : ℕ → List ℕ
command_letters number = option_map_or letters_of (coded number) (entry_in other_letters number)

-- `CCR Credit-Control-Request`
abbrev pub named_text : List ℕ → List ℕ → Bool → List ℕ
named_text letters name request =
    letters ++ (if request then codes "R " else codes "A ")
    ++ name ++ (if request then codes "-Request" else codes "-Answer")

-- a command's abbreviation and name, by its Command Code and flag R
abbrev pub command_text : ℕ → Bool → List ℕ
command_text number request =
    if length (command_letters number) == 0 then codes "unknown command"
    else named_text (command_letters number) (command_name number) request

-- RFC 6733 section 5.4.3
abbrev pub disconnect_causes : List (ℕ × List ℕ)
disconnect_causes = (0, codes "REBOOTING") ∷ (1, codes "BUSY") ∷ (2, codes "DO_NOT_WANT_TO_TALK_TO_YOU") ∷ []

-- RFC 6733 section 8.12
abbrev pub re_auth_request_types : List (ℕ × List ℕ)
re_auth_request_types = (0, codes "AUTHORIZE_ONLY") ∷ (1, codes "AUTHORIZE_AUTHENTICATE") ∷ []

-- RFC 6733 section 8.15
abbrev pub termination_causes : List (ℕ × List ℕ)
termination_causes =
    (1, codes "DIAMETER_LOGOUT")
    ∷ (2, codes "DIAMETER_SERVICE_NOT_PROVIDED")
    ∷ (3, codes "DIAMETER_BAD_ANSWER")
    ∷ (4, codes "DIAMETER_ADMINISTRATIVE")
    ∷ (5, codes "DIAMETER_LINK_BROKEN")
    ∷ (6, codes "DIAMETER_AUTH_EXPIRED")
    ∷ (7, codes "DIAMETER_USER_MOVED")
    ∷ (8, codes "DIAMETER_SESSION_TIMEOUT")
    ∷ []

-- RFC 8506 section 8.3
abbrev pub request_types : List (ℕ × List ℕ)
request_types =
    (1, codes "INITIAL_REQUEST")
    ∷ (2, codes "UPDATE_REQUEST")
    ∷ (3, codes "TERMINATION_REQUEST")
    ∷ (4, codes "EVENT_REQUEST")
    ∷ []

-- RFC 8506 section 8.4
abbrev pub session_failovers : List (ℕ × List ℕ)
session_failovers = (0, codes "FAILOVER_NOT_SUPPORTED") ∷ (1, codes "FAILOVER_SUPPORTED") ∷ []

-- RFC 8506 section 8.6
abbrev pub balance_results : List (ℕ × List ℕ)
balance_results = (0, codes "ENOUGH_CREDIT") ∷ (1, codes "NO_CREDIT") ∷ []

-- RFC 8506 section 8.14
abbrev pub failure_handlings : List (ℕ × List ℕ)
failure_handlings = (0, codes "TERMINATE") ∷ (1, codes "CONTINUE") ∷ (2, codes "RETRY_AND_TERMINATE") ∷ []

-- RFC 8506 section 8.15
abbrev pub debiting_failure_handlings : List (ℕ × List ℕ)
debiting_failure_handlings = (0, codes "TERMINATE_OR_BUFFER") ∷ (1, codes "CONTINUE") ∷ []

-- RFC 8506 section 8.41
abbrev pub requested_actions : List (ℕ × List ℕ)
requested_actions =
    (0, codes "DIRECT_DEBITING")
    ∷ (1, codes "REFUND_ACCOUNT")
    ∷ (2, codes "CHECK_BALANCE")
    ∷ (3, codes "PRICE_ENQUIRY")
    ∷ []

-- RFC 8506 section 8.35
abbrev pub final_unit_actions : List (ℕ × List ℕ)
final_unit_actions = (0, codes "TERMINATE") ∷ (1, codes "REDIRECT") ∷ (2, codes "RESTRICT_ACCESS") ∷ []

-- RFC 8506 section 8.47
abbrev pub subscription_id_types : List (ℕ × List ℕ)
subscription_id_types =
    (0, codes "END_USER_E164")
    ∷ (1, codes "END_USER_IMSI")
    ∷ (2, codes "END_USER_SIP_URI")
    ∷ (3, codes "END_USER_NAI")
    ∷ (4, codes "END_USER_PRIVATE")
    ∷ []

-- RFC 8506 section 8.40
abbrev pub service_indicators : List (ℕ × List ℕ)
service_indicators = (0, codes "MULTIPLE_SERVICES_NOT_SUPPORTED") ∷ (1, codes "MULTIPLE_SERVICES_SUPPORTED") ∷ []

-- RFC 8506 section 8.50
abbrev pub equipment_info_types : List (ℕ × List ℕ)
equipment_info_types = (0, codes "IMEISV") ∷ (1, codes "MAC") ∷ (2, codes "EUI64") ∷ (3, codes "MODIFIED_EUI64") ∷ []

-- the values of each Enumerated AVP, by its AVP Code
abbrev pub enumerations : List (ℕ × List (ℕ × List ℕ))
enumerations =
    (273, disconnect_causes)
    ∷ (285, re_auth_request_types)
    ∷ (295, termination_causes)
    ∷ (416, request_types)
    ∷ (418, session_failovers)
    ∷ (422, balance_results)
    ∷ (427, failure_handlings)
    ∷ (428, debiting_failure_handlings)
    ∷ (436, requested_actions)
    ∷ (449, final_unit_actions)
    ∷ (450, subscription_id_types)
    ∷ (455, service_indicators)
    ∷ (459, equipment_info_types)
    ∷ []

-- the name of a value of an Enumerated AVP, empty where it has none
abbrev pub enumerated_name : ℕ → ℕ → List ℕ
enumerated_name code value = entry_in (entry_in enumerations code) value
