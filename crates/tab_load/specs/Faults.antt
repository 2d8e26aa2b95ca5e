-- Faults of images by number and text, and those of their beginning: the format and the counts.
use Rattle.std.specs.Prelude.{◌≡◌, ℕ, ◌+◌, ◌*◌, ◌<◌, ◌≤◌, ◌||◌, nat_lt, List, [], ◌∷◌, Option, Some}
use Rattle.std.specs.Prelude.{None, length, take, drop, slice_index_or, if◌then◌else◌, codes}
use Rattle.std.specs.Int.{w16, from_be_bytes}
use Rattle.tab_text.specs.declared.limits.TheConstants.{MAX_STATES, MAX_KINDS, MAX_GUARDS, MAX_ACTIONS}
use Rattle.tab_asm.specs.Formats.{Format as FormatSpec, format_1, format_2}
use Rattle.tab_load.specs.declared.counts.Format.{Format}
use Rattle.tab_load.specs.declared.counts.Format.TheVariants.{One, Two}
use Rattle.tab_load.specs.declared.counts.Counts.{Counts}
use Rattle.tab_load.specs.declared.fault.ImageFault.{ImageFault}
use Rattle.tab_load.specs.declared.fault.ImageFault.TheVariants.{Magic, Cut, Count, Name, Unbound, Offset}
use Rattle.tab_load.specs.declared.fault.ImageFault.TheVariants.{BackJump, OpCode, NoEnd, Trailing}

-- the number of a fault
abbrev pub number_of : ImageFault → ℕ
number_of Magic = 1
number_of Cut = 2
number_of Count = 3
number_of Name = 4
number_of Unbound = 5
number_of Offset = 6
number_of BackJump = 7
number_of OpCode = 8
number_of NoEnd = 9
number_of Trailing = 10

-- what is told of a fault
abbrev pub text_of : ImageFault → List ℕ
text_of Magic = codes "no image"
text_of Cut = codes "cut off"
text_of Count = codes "a number is out of range"
text_of Name = codes "bad name"
text_of Unbound = codes "a name is not registered"
text_of Offset = codes "bad offset"
text_of BackJump = codes "a jump back"
text_of OpCode = codes "unknown instruction"
text_of NoEnd = codes "the code has no end"
text_of Trailing = codes "octets behind the code"

-- the place of a fault in a part that begins there: of a part that is cut off, the length of the image
abbrev pub at_of : ImageFault → ℕ → ℕ → ℕ
at_of Cut part length = length
at_of other part length = part

-- what the formats differ in
abbrev pub format_of : Format → FormatSpec
format_of One = format_1
format_of Two = format_2

-- how many octets an offset has
abbrev pub width_of : Format → ℕ
width_of One = 2
width_of Two = 4

-- numbers that fit the octets of an offset, or of the code's length, are below this one
abbrev pub code_limit : Format → ℕ
code_limit One = 65536
code_limit Two = 4294967296

-- an image begins with the octets of a format
abbrev pub BeginsWith : Format → List ℕ → Type 0
BeginsWith format octets = take 4 octets ≡ (format_of format).magic

-- no image is shorter than four octets, or begins with those of no format
abbrev pub magic_fault : List ℕ → ImageFault → Type 0
magic_fault octets Cut = length octets < 4
magic_fault octets Magic = (4 ≤ length octets) × (BeginsWith One octets → ⊥) × (BeginsWith Two octets → ⊥)
magic_fault octets other = ⊥

pub record MagicWrong (octets : List ℕ) (at : ℕ) (fault : ImageFault) : Type 0 where
  pub wrong : magic_fault octets fault
  pub place : at ≡ at_of fault 0 (length octets)

-- the number in the two octets at a place
abbrev pub number_at : List ℕ → ℕ → ℕ
number_at octets at = from_be_bytes w16 (take 2 (drop at octets))

-- the counts of states, kinds, guards, actions and rows, numbered from 0
abbrev pub count_at : List ℕ → ℕ → ℕ
count_at octets number = number_at octets (4 + 2 * number)

-- the most and the least that a count may be
abbrev pub most_of : Format → ℕ → ℕ
most_of format number =
    slice_index_or (MAX_STATES ∷ MAX_KINDS ∷ MAX_GUARDS ∷ MAX_ACTIONS ∷ (format_of format).max_rows ∷ []) number 0

abbrev pub least_of : ℕ → ℕ
least_of number = slice_index_or (1 ∷ 0 ∷ 0 ∷ 0 ∷ 1 ∷ []) number 0

-- what is wrong with a count: it is cut off, or out of its range
abbrev pub count_fault : Format → List ℕ → ℕ → Option ImageFault
count_fault format octets number =
    if nat_lt (length octets) (6 + 2 * number) then Some Cut
    else if nat_lt (count_at octets number) (least_of number)
    || nat_lt (most_of format number) (count_at octets number) then Some Count else None

-- the first count that is wrong
pub record CountsWrong (format : Format) (octets : List ℕ) (at : ℕ) (fault : ImageFault) : Type 0 where
  pub number : ℕ
  pub in_counts : number < 5
  pub before : (other : ℕ) → other < number → count_fault format octets other ≡ None
  pub wrong : count_fault format octets number ≡ Some fault
  pub place : at ≡ at_of fault (4 + 2 * number) (length octets)

-- these are the counts, and none is wrong
pub record CountsOf (format : Format) (octets : List ℕ) (counts : Counts) : Type 0 where
  pub fine : (number : ℕ) → number < 5 → count_fault format octets number ≡ None
  pub states : counts.states ≡ count_at octets 0
  pub kinds : counts.kinds ≡ count_at octets 1
  pub guards : counts.guards ≡ count_at octets 2
  pub actions : counts.actions ≡ count_at octets 3
  pub rows : counts.rows ≡ count_at octets 4
