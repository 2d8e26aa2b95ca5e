-- The numbers of values that credit control names (RFC 8506 sections 8.3 and 8.41).
use Rattle.std.specs.Prelude.{ℕ, ◌==◌, if◌then◌else◌, Option, None, Some}
use Rattle.dia_command.specs.declared.value.RequestType.{RequestType}
use Rattle.dia_command.specs.declared.value.RequestType.TheVariants.{Initial, Update, Termination, Event}
use Rattle.dia_command.specs.declared.value.RequestedAction.{RequestedAction}
use Rattle.dia_command.specs.declared.value.RequestedAction.TheVariants.{DirectDebiting, RefundAccount, CheckBalance}
use Rattle.dia_command.specs.declared.value.RequestedAction.TheVariants.{PriceEnquiry, Other}

-- CC-Request-Type: INITIAL_REQUEST 1, UPDATE_REQUEST 2, TERMINATION_REQUEST 3, EVENT_REQUEST 4
abbrev pub type_number : RequestType → ℕ
type_number Initial = 1
type_number Update = 2
type_number Termination = 3
type_number Event = 4

-- the type with that number
unfoldable pub type_coded : ℕ → Option RequestType
type_coded n =
    if n == 1 then Some Initial
    else if n == 2 then Some Update
    else if n == 3 then Some Termination
    else if n == 4 then Some Event
    else None

-- Requested-Action: DIRECT_DEBITING 0, REFUND_ACCOUNT 1, CHECK_BALANCE 2, PRICE_ENQUIRY 3, and any other number
abbrev pub action_number : RequestedAction → ℕ
action_number DirectDebiting = 0
action_number RefundAccount = 1
action_number CheckBalance = 2
action_number PriceEnquiry = 3
action_number (Other n) = n

-- the action with that number
unfoldable pub action_coded : ℕ → RequestedAction
action_coded n =
    if n == 0 then DirectDebiting
    else if n == 1 then RefundAccount
    else if n == 2 then CheckBalance
    else if n == 3 then PriceEnquiry
    else Other n
