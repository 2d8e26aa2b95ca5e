-- Which commands there are, and the AVPs of each in the order in which they are written (RFC 6733 section 3.2).
use Rattle.std.specs.Prelude.{ℕ, Bool, true, false, ◌==◌, ◌||◌, if◌then◌else◌, List, [], ◌∷◌, Option, None, Some}
use Rattle.dia_command.specs.declared.kind.CommandKind.{CommandKind}
use Rattle.dia_command.specs.declared.kind.CommandKind.TheVariants.{CapabilitiesExchangeRequest}
use Rattle.dia_command.specs.declared.kind.CommandKind.TheVariants.{CapabilitiesExchangeAnswer, DeviceWatchdogRequest}
use Rattle.dia_command.specs.declared.kind.CommandKind.TheVariants.{DeviceWatchdogAnswer, DisconnectPeerRequest}
use Rattle.dia_command.specs.declared.kind.CommandKind.TheVariants.{DisconnectPeerAnswer, ReAuthRequest, ReAuthAnswer}
use Rattle.dia_command.specs.declared.kind.CommandKind.TheVariants.{CreditControlRequest, CreditControlAnswer}
use Rattle.dia_command.specs.declared.kind.CommandKind.TheVariants.{ErrorAnswer}
use Rattle.dia_command.specs.declared.format.AvpFormat.{AvpFormat}

-- the kinds of command by Command Code: of requests, of answers
abbrev pub request_coded : ℕ → Option CommandKind
request_coded code =
    if code == 257 then Some CapabilitiesExchangeRequest
    else if code == 280 then Some DeviceWatchdogRequest
    else if code == 282 then Some DisconnectPeerRequest
    else if code == 258 then Some ReAuthRequest
    else if code == 272 then Some CreditControlRequest
    else None

abbrev pub answer_coded : ℕ → Option CommandKind
answer_coded code =
    if code == 257 then Some CapabilitiesExchangeAnswer
    else if code == 280 then Some DeviceWatchdogAnswer
    else if code == 282 then Some DisconnectPeerAnswer
    else if code == 258 then Some ReAuthAnswer
    else if code == 272 then Some CreditControlAnswer
    else None

-- the kind of a command by its Command Code and flag R
abbrev pub kind_coded : ℕ → Bool → Option CommandKind
kind_coded code request = if request then request_coded code else answer_coded code

-- the Application-Id of a Command Code that is known:
-- credit control's for RAR, RAA, CCR and CCA, else the base protocol's
abbrev pub application_of : ℕ → ℕ
application_of code = if (code == 258) || (code == 272) then 4 else 0

-- an AVP that must be there, once: { } and < > in a command's format
abbrev pub required : ℕ → AvpFormat
required code = record { code = code; required = true; several = false }

-- an AVP that may be there, once: [ ]
abbrev pub optional : ℕ → AvpFormat
optional code = record { code = code; required = false; several = false }

-- an AVP that must be there, once or more: 1* { }
abbrev pub one_or_more : ℕ → AvpFormat
one_or_more code = record { code = code; required = true; several = true }

-- an AVP that may be there any number of times: * [ ]
abbrev pub any_number : ℕ → AvpFormat
any_number code = record { code = code; required = false; several = true }

-- an AVP that must be there, once, where a test says so, and else may be
abbrev pub required_if : Bool → ℕ → AvpFormat
required_if test code = record { code = code; required = test; several = false }

-- the AVPs of a command in order; in an EVENT request of credit control Requested-Action must be there
abbrev pub format_of : CommandKind → Bool → List AvpFormat
format_of CapabilitiesExchangeRequest event =
    required 264 ∷ required 296 ∷ one_or_more 257 ∷ required 266 ∷ required 269 ∷ any_number 258 ∷ []
format_of CapabilitiesExchangeAnswer event =
    required 268 ∷ required 264 ∷ required 296 ∷ one_or_more 257 ∷ required 266 ∷ required 269 ∷ any_number 258 ∷ []
format_of DeviceWatchdogRequest event = required 264 ∷ required 296 ∷ []
format_of DeviceWatchdogAnswer event = required 268 ∷ required 264 ∷ required 296 ∷ []
format_of DisconnectPeerRequest event = required 264 ∷ required 296 ∷ required 273 ∷ []
format_of DisconnectPeerAnswer event = required 268 ∷ required 264 ∷ required 296 ∷ []
format_of ReAuthRequest event =
    required 263 ∷ required 264 ∷ required 296 ∷ required 283 ∷ required 293 ∷ required 258 ∷ required 285 ∷ []
format_of ReAuthAnswer event = required 263 ∷ required 268 ∷ required 264 ∷ required 296 ∷ []
format_of CreditControlRequest event = required 263
    ∷ required 264 ∷ required 296 ∷ required 283 ∷ required 258 ∷ required 461 ∷ required 416 ∷ required 415
    ∷ any_number 443 ∷ required_if event 436 ∷ optional 437 ∷ any_number 446 ∷ optional 455 ∷ any_number 456 ∷ []
format_of CreditControlAnswer event = required 263 ∷ required 268 ∷ required 264 ∷ required 296
    ∷ required 258 ∷ required 416 ∷ required 415 ∷ optional 431 ∷ optional 430 ∷ optional 422 ∷ any_number 456 ∷ []
format_of ErrorAnswer event = optional 263 ∷ required 264 ∷ required 296 ∷ required 268 ∷ optional 279 ∷ []
