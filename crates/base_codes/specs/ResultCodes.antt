-- Result-Codes by number and name (RFC 6733 section 7.1, RFC 8506 section 9).
use Rattle.std.specs.Prelude.{ℕ, List, codes}
use Rattle.base_codes.specs.declared.result_code.ResultCode.{ResultCode}
use Rattle.base_codes.specs.declared.result_code.ResultCode.TheVariants.{Success, CommandUnsupported, TooBusy}
use Rattle.base_codes.specs.declared.result_code.ResultCode.TheVariants.{ApplicationUnsupported}
use Rattle.base_codes.specs.declared.result_code.ResultCode.TheVariants.{UnknownPeer, EndUserServiceDenied}
use Rattle.base_codes.specs.declared.result_code.ResultCode.TheVariants.{CreditControlNotApplicable}
use Rattle.base_codes.specs.declared.result_code.ResultCode.TheVariants.{CreditLimitReached, AvpUnsupported}
use Rattle.base_codes.specs.declared.result_code.ResultCode.TheVariants.{UnknownSessionId, InvalidAvpValue}
use Rattle.base_codes.specs.declared.result_code.ResultCode.TheVariants.{MissingAvp, NoCommonApplication}
use Rattle.base_codes.specs.declared.result_code.ResultCode.TheVariants.{UnsupportedVersion, UnableToComply}
use Rattle.base_codes.specs.declared.result_code.ResultCode.TheVariants.{InvalidAvpLength, InvalidMessageLength}
use Rattle.base_codes.specs.declared.result_code.ResultCode.TheVariants.{UserUnknown, RatingFailed}

-- the number of a Result-Code
abbrev pub number_of : ResultCode → ℕ
number_of Success = 2001
number_of CommandUnsupported = 3001
number_of TooBusy = 3004
number_of ApplicationUnsupported = 3007
number_of UnknownPeer = 3010
number_of EndUserServiceDenied = 4010
number_of CreditControlNotApplicable = 4011
number_of CreditLimitReached = 4012
number_of AvpUnsupported = 5001
number_of UnknownSessionId = 5002
number_of InvalidAvpValue = 5004
number_of MissingAvp = 5005
number_of NoCommonApplication = 5010
number_of UnsupportedVersion = 5011
number_of UnableToComply = 5012
number_of InvalidAvpLength = 5014
number_of InvalidMessageLength = 5015
number_of UserUnknown = 5030
number_of RatingFailed = 5031

-- its name
abbrev pub name_of : ResultCode → List ℕ
name_of Success = codes "DIAMETER_SUCCESS"
name_of CommandUnsupported = codes "DIAMETER_COMMAND_UNSUPPORTED"
name_of TooBusy = codes "DIAMETER_TOO_BUSY"
name_of ApplicationUnsupported = codes "DIAMETER_APPLICATION_UNSUPPORTED"
name_of UnknownPeer = codes "DIAMETER_UNKNOWN_PEER"
name_of EndUserServiceDenied = codes "DIAMETER_END_USER_SERVICE_DENIED"
name_of CreditControlNotApplicable = codes "DIAMETER_CREDIT_CONTROL_NOT_APPLICABLE"
name_of CreditLimitReached = codes "DIAMETER_CREDIT_LIMIT_REACHED"
name_of AvpUnsupported = codes "DIAMETER_AVP_UNSUPPORTED"
name_of UnknownSessionId = codes "DIAMETER_UNKNOWN_SESSION_ID"
name_of InvalidAvpValue = codes "DIAMETER_INVALID_AVP_VALUE"
name_of MissingAvp = codes "DIAMETER_MISSING_AVP"
name_of NoCommonApplication = codes "DIAMETER_NO_COMMON_APPLICATION"
name_of UnsupportedVersion = codes "DIAMETER_UNSUPPORTED_VERSION"
name_of UnableToComply = codes "DIAMETER_UNABLE_TO_COMPLY"
name_of InvalidAvpLength = codes "DIAMETER_INVALID_AVP_LENGTH"
name_of InvalidMessageLength = codes "DIAMETER_INVALID_MESSAGE_LENGTH"
name_of UserUnknown = codes "DIAMETER_USER_UNKNOWN"
name_of RatingFailed = codes "DIAMETER_RATING_FAILED"
