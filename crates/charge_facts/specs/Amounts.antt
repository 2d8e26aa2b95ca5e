-- Amounts of units in groups of AVPs (RFC 8506 sections 8.17 to 8.22).
use Rattle.std.specs.Prelude.{ℕ, ◌-◌, ◌^◌, List, map, filter, find, sum, min, Option, None, Some, if◌then◌else◌}
use Rattle.std.specs.Prelude.{unwrap_or, is_some}
use Rattle.std.specs.Option.{option_map, option_and_then, option_map_or}
use Rattle.base_codes.specs.declared.avp_code.TheConstants.{CC_TIME, CC_TOTAL_OCTETS, CC_SERVICE_SPECIFIC_UNITS}
use Rattle.dia_avp.specs.declared.avp.Avp.{Avp}
use Rattle.dia_avp.specs.Reading.{avps_in}
use Rattle.dia_avp.specs.Look.{is_coded, number_in}
use Rattle.charge_facts.specs.declared.amount.Amount.{Amount}

-- so many of a unit
abbrev pub amount : ℕ → ℕ → Amount
amount unit units = record { unit = unit; units = units }

-- the amount that an AVP tells: CC-Time is seconds, unit 1, CC-Total-Octets octets, unit 2, CC-Service-Specific-Units
-- unit 3; any other AVP, and one of another size, tells none
abbrev pub amount_of : Avp → Option Amount
amount_of a =
    if is_coded CC_TIME a then option_map (amount 1) (number_in 4 a.octets)
    else if is_coded CC_TOTAL_OCTETS a then option_map (amount 2) (number_in 8 a.octets)
    else if is_coded CC_SERVICE_SPECIFIC_UNITS a then option_map (amount 3) (number_in 8 a.octets)
    else None

-- the first amount that a group tells
abbrev pub first_amount : List Avp → Option Amount
first_amount group = option_and_then amount_of (find (λ a. is_some (amount_of a)) group)

-- the group that an AVP's data is
abbrev pub group_in : Avp → List Avp
group_in a = (avps_in a.octets).0

-- the groups of a code among AVPs, and the first of them
abbrev pub groups_of : ℕ → List Avp → List (List Avp)
groups_of code avps = map group_in (filter (is_coded code) avps)

abbrev pub first_group : ℕ → List Avp → Option (List Avp)
first_group code avps = option_map group_in (find (is_coded code) avps)

-- what a group tells that may be absent: nothing where it is; where it tells no amount, this default
abbrev pub told : Amount → Option (List Avp) → Amount
told default None = amount 0 0
told default (Some group) = unwrap_or (first_amount group) default

-- the units of an amount, and none where there is none
abbrev pub units_of : Option Amount → ℕ
units_of first = option_map_or (λ a. a.units) first 0

-- the units of all groups together, as many as 64 bits hold
abbrev pub total : List (List Avp) → ℕ
total groups = min (sum (map (λ group. units_of (first_amount group)) groups)) (2 ^ 64 - 1)
