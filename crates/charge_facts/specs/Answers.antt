-- The facts of the answers of credit control, a line each (RFC 8506 sections 3.2 and 8, RFC 6733 section 7.2).
use Rattle.std.specs.Prelude.{ℕ, ◌+◌, ◌==◌, ◌&&◌, Bool, List, length, find, Option, None, Some, if◌then◌else◌}
use Rattle.std.specs.Prelude.{unwrap_or, is_some}
use Rattle.std.specs.Option.{option_map, option_map_or}
use Rattle.base_codes.specs.declared.avp_code.TheConstants.{RATING_GROUP, RESULT_CODE, GRANTED_SERVICE_UNIT}
use Rattle.base_codes.specs.declared.avp_code.TheConstants.{FINAL_UNIT_INDICATION}
use Rattle.base_codes.specs.declared.command_code.CommandCode.TheVariants.{CreditControl}
use Rattle.base_codes.specs.CommandCodes.{number_of}
use Rattle.dia_avp.specs.declared.avp.Avp.{Avp}
use Rattle.dia_avp.specs.Look.{is_coded, first_number}
use Rattle.dia_command.specs.declared.command.Command.{Command}
use Rattle.dia_command.specs.declared.command.Command.TheVariants.{Cca, ErrorAnswer}
use Rattle.dia_command.specs.declared.command.CreditControlAnswer.{CreditControlAnswer as Answer}
use Rattle.dia_command.specs.declared.command.ErrorAnswer.{ErrorAnswer as Fault}
use Rattle.dia_command.specs.Value.{type_number}
use Rattle.charge_facts.specs.declared.facts.Slot.{Slot}
use Rattle.charge_facts.specs.declared.facts.Facts.{Facts}
use Rattle.charge_facts.specs.Amounts.{amount, told, first_group}
use Rattle.charge_facts.specs.Requests.{group_number, no_slot, slot_at}
use Rattle.charge_facts.specs.Places.{places_of}

-- 1 for there, 0 for not
abbrev pub flag : Bool → ℕ
flag there = if there then 1 else 0

-- the Result-Code of a service, success where it tells none
abbrev pub result_of : List Avp → ℕ
result_of service = unwrap_or (first_number RESULT_CODE service) 2001

-- the slot of a service of an answer
abbrev pub answer_slot : List Avp → Slot
answer_slot service = record {
  group = group_number (first_number RATING_GROUP service);
  used = 0;
  want = 0;
  unit = (told (amount 0 0) (first_group GRANTED_SERVICE_UNIT service)).unit;
  result = result_of service;
  granted = (told (amount 0 0) (first_group GRANTED_SERVICE_UNIT service)).units;
  last = flag (is_some (find (is_coded FINAL_UNIT_INDICATION) service));
}

-- the facts of a Credit-Control-Answer; final wherever a Final-Unit-Indication stands
abbrev pub facts_of_answer : Answer → Facts
facts_of_answer c = record {
  hop_by_hop = c.header.hop_by_hop;
  end_to_end = c.header.end_to_end;
  class = 2;
  request_type = type_number c.cc_request_type.value;
  request_number = c.cc_request_number.value + 1;
  account = 0;
  used = 0;
  want = 0;
  unit = (told (amount 0 0) (option_map (λ g. g.value) c.granted_service_unit)).unit;
  action_or_check = option_map_or (λ v. v.value + 1) c.check_balance_result 0;
  result = c.result_code.value;
  granted = (told (amount 0 0) (option_map (λ g. g.value) c.granted_service_unit)).units;
  last = flag (is_some c.final_unit_indication);
  services = length c.multiple_services_credit_control;
  slot_1 = slot_at answer_slot c.multiple_services_credit_control 0;
  slot_2 = slot_at answer_slot c.multiple_services_credit_control 1;
  slot_3 = slot_at answer_slot c.multiple_services_credit_control 2;
  slot_4 = slot_at answer_slot c.multiple_services_credit_control 3;
}

-- the facts of an answer that tells a fault: identifiers and Result-Code alone
abbrev pub facts_of_fault : Fault → Facts
facts_of_fault c = record {
  hop_by_hop = c.header.hop_by_hop;
  end_to_end = c.header.end_to_end;
  class = 3;
  request_type = 0;
  request_number = 0;
  account = 0;
  used = 0;
  want = 0;
  unit = 0;
  action_or_check = 0;
  result = c.result_code.value;
  granted = 0;
  last = 0;
  services = 0;
  slot_1 = no_slot;
  slot_2 = no_slot;
  slot_3 = no_slot;
  slot_4 = no_slot;
}

-- the facts of the event that a command is for a client: a Credit-Control-Answer, or an answer that tells a fault of
-- credit control to a session; no other command is one
abbrev pub answer_places : Command → Option (List ℕ)
answer_places (Cca c) = Some (places_of (facts_of_answer c))
answer_places (ErrorAnswer c) =
    if (c.header.command == number_of CreditControl) && is_some c.session_id
    then Some (places_of (facts_of_fault c))
    else None
answer_places command = None
