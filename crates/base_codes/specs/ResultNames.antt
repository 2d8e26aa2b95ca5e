-- Names of Result-Codes by number (RFC 6733 section 7.1, RFC 8506 section 9).
use Rattle.std.specs.Prelude.{ℕ, ◌==◌, List, [], ◌∷◌, Option, codes}
use Rattle.std.specs.Option.{option_map_or}
use Rattle.std.specs.List.{find}
use Rattle.base_codes.specs.declared.result_code.ResultCode.{ResultCode}
use Rattle.base_codes.specs.declared.result_code.ResultCode.TheVariants.{Success, CommandUnsupported, TooBusy}
use Rattle.base_codes.specs.declared.result_code.ResultCode.TheVariants.{ApplicationUnsupported}
use Rattle.base_codes.specs.declared.result_code.ResultCode.TheVariants.{UnknownPeer, EndUserServiceDenied}
use Rattle.base_codes.specs.declared.result_code.ResultCode.TheVariants.{CreditControlNotApplicable}
use Rattle.base_codes.specs.declared.result_code.ResultCode.TheVariants.{CreditLimitReached, AvpUnsupported}
use Rattle.base_codes.specs.declared.result_code.ResultCode.TheVariants.{UnknownSessionId, InvalidAvpValue}
use Rattle.base_codes.specs.declared.result_code.ResultCode.TheVariants.{MissingAvp, NoCommonApplication}
use Rattle.base_codes.specs.declared.result_code.ResultCode.TheVariants.{UnsupportedVersion, UnableToComply}
use Rattle.base_codes.specs.declared.result_code.ResultCode.TheVariants.{InvalidAvpLength, InvalidMessageLength}
use Rattle.base_codes.specs.declared.result_code.ResultCode.TheVariants.{UserUnknown, RatingFailed}
use Rattle.base_codes.specs.ResultCodes.{number_of, name_of}

-- the Result-Codes that this project's code names
abbrev pub all : List ResultCode
all =
    Success ∷ CommandUnsupported ∷ TooBusy ∷ ApplicationUnsupported ∷ UnknownPeer ∷ EndUserServiceDenied
    ∷ CreditControlNotApplicable ∷ CreditLimitReached ∷ AvpUnsupported ∷ UnknownSessionId ∷ InvalidAvpValue
    ∷ MissingAvp ∷ NoCommonApplication ∷ UnsupportedVersion ∷ UnableToComply ∷ InvalidAvpLength
    ∷ InvalidMessageLength ∷ UserUnknown ∷ RatingFailed ∷ []

-- the one with a number
unfoldable pub coded : ℕ → Option ResultCode
coded number = find (λ code. number_of code == number) all

-- the others, by number
abbrev pub others : List (ℕ × List ℕ)
others =
    (1001, codes "DIAMETER_MULTI_ROUND_AUTH")
    ∷ (2002, codes "DIAMETER_LIMITED_SUCCESS")
    ∷ (3002, codes "DIAMETER_UNABLE_TO_DELIVER")
    ∷ (3003, codes "DIAMETER_REALM_NOT_SERVED")
    ∷ (3005, codes "DIAMETER_LOOP_DETECTED")
    ∷ (3006, codes "DIAMETER_REDIRECT_INDICATION")
    ∷ (3008, codes "DIAMETER_INVALID_HDR_BITS")
    ∷ (3009, codes "DIAMETER_INVALID_AVP_BITS")
    ∷ (4001, codes "DIAMETER_AUTHENTICATION_REJECTED")
    ∷ (4002, codes "DIAMETER_OUT_OF_SPACE")
    ∷ (4003, codes "ELECTION_LOST")
    ∷ (5003, codes "DIAMETER_AUTHORIZATION_REJECTED")
    ∷ (5006, codes "DIAMETER_RESOURCES_EXCEEDED")
    ∷ (5007, codes "DIAMETER_CONTRADICTING_AVPS")
    ∷ (5008, codes "DIAMETER_AVP_NOT_ALLOWED")
    ∷ (5009, codes "DIAMETER_AVP_OCCURS_TOO_MANY_TIMES")
    ∷ (5013, codes "DIAMETER_INVALID_BIT_IN_HEADER")
    ∷ (5016, codes "DIAMETER_INVALID_AVP_BIT_COMBO")
    ∷ (5017, codes "DIAMETER_NO_COMMON_SECURITY")
    ∷ []

-- the name of one of the others, empty where there is none
unfoldable pub other_name : ℕ → List ℕ
other_name number =
    option_map_or (λ (entry : ℕ × List ℕ). entry.1) (find (λ (entry : ℕ × List ℕ). entry.0 == number) others) []

-- the name of a Result-Code by its number, empty where it has none
abbrev pub result_name : ℕ → List ℕ
result_name number = option_map_or name_of (coded number) (other_name number)
