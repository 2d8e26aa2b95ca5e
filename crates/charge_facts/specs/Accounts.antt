-- The account of a request (RFC 8506 sections 8.46 to 8.48, and this project's numbers).
use Rattle.std.specs.Prelude.{ℕ, ◌==◌, ◌&&◌, not, nat_le, Bool, false, List, [], ◌∷◌, length, find, if◌then◌else◌}
use Rattle.std.specs.Prelude.{unwrap_or}
use Rattle.std.specs.Option.{option_map_or}
use Rattle.base_codes.specs.declared.avp_code.TheConstants.{SUBSCRIPTION_ID_TYPE, SUBSCRIPTION_ID_DATA}
use Rattle.base_text.specs.Numbers.{number_of}
use Rattle.dia_avp.specs.declared.avp.Avp.{Avp}
use Rattle.dia_avp.specs.Look.{is_coded, first_number}
use Rattle.dia_command.specs.declared.typed.TypedAvp.{TypedAvp}

-- whether a number begins with the digit 0
abbrev pub begins_with_0 : List ℕ → Bool
begins_with_0 [] = false
begins_with_0 (c ∷ cs) = c == 48

-- the number of an account: 1 to 15 decimal digits without a leading zero, and else 0, which no account has
abbrev pub account_number : List ℕ → ℕ
account_number digits =
    if nat_le (length digits) 15 && not (begins_with_0 digits) then unwrap_or (number_of digits) 0 else 0

-- whether a Subscription-Id is of type 0, END_USER_E164
abbrev pub is_e164 : List Avp → Bool
is_e164 group = option_map_or (λ t. t == 0) (first_number SUBSCRIPTION_ID_TYPE group) false

-- the account that a Subscription-Id names by its Subscription-Id-Data
abbrev pub account_in : List Avp → ℕ
account_in group = option_map_or (λ a. account_number a.octets) (find (is_coded SUBSCRIPTION_ID_DATA) group) 0

-- the account of a request: that of the first Subscription-Id of type 0, whatever it is, and 0 where there is none
abbrev pub account_of : List (TypedAvp (List Avp)) → ℕ
account_of ids = option_map_or (λ id. account_in id.value) (find (λ id. is_e164 id.value) ids) 0
