-- The facts of a Credit-Control-Request, a line each (RFC 8506 sections 3.1 and 8).
use Rattle.std.specs.Prelude.{ℕ, ◌+◌, ◌==◌, List, length, map, Option, if◌then◌else◌, slice_get}
use Rattle.std.specs.Option.{option_map, option_map_or}
use Rattle.base_codes.specs.declared.avp_code.TheConstants.{RATING_GROUP, REQUESTED_SERVICE_UNIT, USED_SERVICE_UNIT}
use Rattle.dia_avp.specs.declared.avp.Avp.{Avp}
use Rattle.dia_avp.specs.Look.{first_number}
use Rattle.dia_command.specs.declared.command.CreditControlRequest.{CreditControlRequest as Request}
use Rattle.dia_command.specs.declared.typed.TypedAvp.{TypedAvp}
use Rattle.dia_command.specs.declared.value.RequestType.{RequestType}
use Rattle.dia_command.specs.declared.value.RequestType.TheVariants.{Initial, Update, Termination, Event}
use Rattle.dia_command.specs.Value.{type_number, action_number}
use Rattle.charge_facts.specs.declared.amount.Amount.{Amount}
use Rattle.charge_facts.specs.declared.facts.Units.{Units}
use Rattle.charge_facts.specs.declared.facts.Slot.{Slot}
use Rattle.charge_facts.specs.declared.facts.Facts.{Facts}
use Rattle.charge_facts.specs.Amounts.{amount, told, total, groups_of, first_group}
use Rattle.charge_facts.specs.Accounts.{account_of}

-- used units count in UPDATE and TERMINATION requests alone: before INITIAL and EVENT none were granted
abbrev pub used_by : RequestType → ℕ → ℕ
used_by Initial used = 0
used_by Update used = used
used_by Termination used = used
used_by Event used = 0

-- a TERMINATION request wants none
abbrev pub want_by : RequestType → ℕ → ℕ
want_by Termination want = 0
want_by type want = want

-- what is asked for, where a Requested-Service-Unit without an amount asks for so many octets, and what was used
abbrev pub units_by : RequestType → Amount → ℕ → Units
units_by type wanted used = record {
  used = used_by type used;
  want = want_by type wanted.units;
  unit = wanted.unit;
}

-- no units
abbrev pub no_units : Units
no_units = record { used = 0; want = 0; unit = 0 }

-- the group of a service: 1 without a Rating-Group, else two more than it; 0 is for a slot without a service
abbrev pub group_number : Option ℕ → ℕ
group_number rating = option_map_or (λ n. n + 2) rating 1

-- the slot of no service
abbrev pub no_slot : Slot
no_slot = record { group = 0; used = 0; want = 0; unit = 0; result = 0; granted = 0; last = 0 }

-- the slot of a place, from 0, by the service there
abbrev pub slot_at : (List Avp → Slot) → List (TypedAvp (List Avp)) → ℕ → Slot
slot_at slot_of services place = option_map_or (λ service. slot_of service.value) (slice_get services place) no_slot

-- the units of a service that a request asks for and has used (Multiple-Services-Credit-Control, section 8.16)
abbrev pub service_units : RequestType → ℕ → List Avp → Units
service_units type default service =
    units_by type (told (amount 2 default) (first_group REQUESTED_SERVICE_UNIT service))
    (total (groups_of USED_SERVICE_UNIT service))

-- the slot of a service of a request
abbrev pub request_slot : RequestType → ℕ → List Avp → Slot
request_slot type default service = record {
  group = group_number (first_number RATING_GROUP service);
  used = (service_units type default service).used;
  want = (service_units type default service).want;
  unit = (service_units type default service).unit;
  result = 0;
  granted = 0;
  last = 0;
}

-- the units of a request itself; of one with services none, whatever else it has
abbrev pub request_units : Request → ℕ → Units
request_units c default =
    if length c.multiple_services_credit_control == 0
    then units_by c.cc_request_type.value
    (told (amount 2 default) (option_map (λ g. g.value) c.requested_service_unit))
    (total (map (λ g. g.value) c.used_service_unit))
    else no_units

-- the facts of a request
abbrev pub facts_of_request : Request → ℕ → Facts
facts_of_request c default = record {
  hop_by_hop = c.header.hop_by_hop;
  end_to_end = c.header.end_to_end;
  class = 1;
  request_type = type_number c.cc_request_type.value;
  request_number = c.cc_request_number.value + 1;
  account = account_of c.subscription_id;
  used = (request_units c default).used;
  want = (request_units c default).want;
  unit = (request_units c default).unit;
  action_or_check = option_map_or (λ a. action_number a.value + 1) c.requested_action 0;
  result = 0;
  granted = 0;
  last = 0;
  services = length c.multiple_services_credit_control;
  slot_1 = slot_at (request_slot c.cc_request_type.value default) c.multiple_services_credit_control 0;
  slot_2 = slot_at (request_slot c.cc_request_type.value default) c.multiple_services_credit_control 1;
  slot_3 = slot_at (request_slot c.cc_request_type.value default) c.multiple_services_credit_control 2;
  slot_4 = slot_at (request_slot c.cc_request_type.value default) c.multiple_services_credit_control 3;
}
