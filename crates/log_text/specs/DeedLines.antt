-- The line of a deed: what it tells, and what is read of it.
use Rattle.std.specs.Prelude.{◌≡◌, ◌<◌, ℕ, ◌+◌, ◌^◌, nat_lt, List, [], ◌∷◌, ◌++◌, All, length, replicate, slice_set}
use Rattle.std.specs.Prelude.{Option, Some, None, codes, option_map, if◌then◌else◌}
use Rattle.std.specs.Str.{bytes_eq}
use Rattle.acct_totals.specs.declared.op.Outcome.{Outcome}
use Rattle.acct_totals.specs.declared.op.Outcome.TheVariants.{Done, Refused}
use Rattle.base_codes.specs.DeedCodes.{name_of, number_of}
use Rattle.base_codes.specs.declared.deed_code.DeedCode.{DeedCode}
use Rattle.base_codes.specs.declared.deed_code.DeedCode.TheVariants.{Unlisted, ToPeer, ToSession, Close, Dial, Undial}
use Rattle.base_codes.specs.declared.deed_code.DeedCode.TheVariants.{Arm, Disarm, SndCer, SndCea, SndDwa, SndDpr}
use Rattle.base_codes.specs.declared.deed_code.DeedCode.TheVariants.{SndDpa, SndMsg, Elect, Reserve, Debit, Release}
use Rattle.base_codes.specs.declared.deed_code.DeedCode.TheVariants.{Charge, Refund, Service}
use Rattle.base_text.specs.Numbers as numbers
use Rattle.tab_law.specs.declared.limits.TheConstants.{PLACES}
use Rattle.text_parts.specs.Pieces.{pieces_in}
use Rattle.step_text.specs.Guess.{large, rest_of}
use Rattle.log_text.specs.EntryLines.{deed_text, is_booking, outcome_text}
use Rattle.log_text.specs.ItemLines.{below}
use Rattle.log_text.specs.declared.deed_line.DeedLine.{DeedLine}

-- the line of a deed, without its newline: one of the account book with its outcome
abbrev pub deed_line : DeedLine → List ℕ
deed_line line = deed_text line.deed ++ (if is_booking line.deed.code then outcome_text line.outcome else [])

abbrev pub IsOutcome : Outcome → Type 0
IsOutcome (Done amount unpaid) = (amount < 2 ^ 64) × (unpaid < 2 ^ 64)
IsOutcome Refused = Unit {0}

-- a deed as there may be one: its numbers fit their types
pub record IsDone (line : DeedLine) : Type 0 where
  pub code : line.deed.code < 2 ^ 16
  pub places : length line.deed.a ≡ PLACES
  pub values : All (λ value. value < 2 ^ 64) line.deed.a
  pub outcome : IsOutcome line.outcome

-- a deed as there may be one, and this line tells it
pub record IsDeedOf (line : List ℕ) (deed : DeedLine) : Type 0 where
  pub is : IsDone deed
  pub has : deed_line deed ≡ line

-- a line that tells a deed
pub record IsDeedLine (line : List ℕ) : Type 0 where
  pub deed : DeedLine
  pub is : IsDone deed
  pub has : deed_line deed ≡ line

-- the deed of that name
abbrev pub named_code : List ℕ → Option DeedCode
named_code word =
    if bytes_eq word (name_of Unlisted) then Some Unlisted
    else if bytes_eq word (name_of ToPeer) then Some ToPeer
    else if bytes_eq word (name_of ToSession) then Some ToSession
    else if bytes_eq word (name_of Close) then Some Close
    else if bytes_eq word (name_of Dial) then Some Dial
    else if bytes_eq word (name_of Undial) then Some Undial
    else if bytes_eq word (name_of Arm) then Some Arm
    else if bytes_eq word (name_of Disarm) then Some Disarm
    else if bytes_eq word (name_of SndCer) then Some SndCer
    else if bytes_eq word (name_of SndCea) then Some SndCea
    else if bytes_eq word (name_of SndDwa) then Some SndDwa
    else if bytes_eq word (name_of SndDpr) then Some SndDpr
    else if bytes_eq word (name_of SndDpa) then Some SndDpa
    else if bytes_eq word (name_of SndMsg) then Some SndMsg
    else if bytes_eq word (name_of Elect) then Some Elect
    else if bytes_eq word (name_of Reserve) then Some Reserve
    else if bytes_eq word (name_of Debit) then Some Debit
    else if bytes_eq word (name_of Release) then Some Release
    else if bytes_eq word (name_of Charge) then Some Charge
    else if bytes_eq word (name_of Refund) then Some Refund
    else if bytes_eq word (name_of Service) then Some Service
    else None

-- a deed's code by its number, or else by its name
abbrev pub code_with : List ℕ → Option ℕ → Option ℕ
code_with word (Some number) = below (2 ^ 16) (Some number)
code_with word None = option_map number_of (named_code word)

abbrev pub code_of : List ℕ → Option ℕ
code_of word = code_with word (numbers.number_of word)

-- the numbers of words from that place on, up to the first that is none
abbrev pub put_with : (List ℕ → ℕ → List ℕ) → ℕ → List ℕ → Option ℕ → List ℕ
put_with goes_on n a None = a
put_with goes_on n a (Some value) = if nat_lt n PLACES then goes_on (slice_set a n value) (n + 1) else goes_on a n

abbrev pub put_args : List (List ℕ) → List ℕ → ℕ → List ℕ
put_args [] a n = a
put_args (word ∷ words) a n = put_with (put_args words) n a (numbers.number_of word)

abbrev pub args_of : List (List ℕ) → List ℕ
args_of words = put_args words (replicate PLACES 0) 0

-- the first word that is no number, and those behind it
abbrev pub stop_with : List ℕ → Option (List ℕ) → Option ℕ → Option (List ℕ)
stop_with word stop None = Some word
stop_with word stop (Some value) = stop

abbrev pub stop_of : List (List ℕ) → Option (List ℕ)
stop_of [] = None
stop_of (word ∷ words) = stop_with word (stop_of words) (numbers.number_of word)

abbrev pub behind_with : List (List ℕ) → List (List ℕ) → Option ℕ → List (List ℕ)
behind_with words behind None = words
behind_with words behind (Some value) = behind

abbrev pub behind_stop : List (List ℕ) → List (List ℕ)
behind_stop [] = []
behind_stop (word ∷ words) = behind_with words (behind_stop words) (numbers.number_of word)

-- what the account book made of a deed
abbrev pub done_with : Option ℕ → Option ℕ → Option Outcome
done_with (Some amount) (Some unpaid) = Some (Done amount unpaid)
done_with (Some amount) None = None
done_with None unpaid = None

abbrev pub outcome_behind : List ℕ → List (List ℕ) → Option Outcome
outcome_behind stop words =
    if bytes_eq stop (codes "=") then done_with (large words) (large (rest_of words)) else Some Refused

abbrev pub outcome_of : Option (List ℕ) → List (List ℕ) → Option Outcome
outcome_of None words = Some Refused
outcome_of (Some stop) words = outcome_behind stop words

-- the deed of a code and the words behind it
abbrev pub deed_with : Option ℕ → List (List ℕ) → Option DeedLine
deed_with None words = None
deed_with (Some code) words =
    option_map (λ outcome. record { deed = record { code = code; a = args_of words }; outcome = outcome })
    (outcome_of (stop_of words) (behind_stop words))

-- the deed that the words behind four blanks tell
abbrev pub deed_in : List (List ℕ) → Option DeedLine
deed_in [] = None
deed_in (word ∷ words) = deed_with (code_of word) words

abbrev pub behind_four : List (List ℕ) → Option DeedLine
behind_four [] = None
behind_four (a ∷ []) = None
behind_four (a ∷ b ∷ []) = None
behind_four (a ∷ b ∷ c ∷ []) = None
behind_four (a ∷ b ∷ c ∷ d ∷ words) = deed_in words

-- the deed that a line can tell
abbrev pub guess_deed : List ℕ → Option DeedLine
guess_deed line = behind_four (pieces_in 32 line)
