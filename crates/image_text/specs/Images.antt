-- Images as text: which program a text gives, and why it gives none.
use Rattle.std.specs.Prelude.{ℕ, Bool, false, List, ◌++◌, is_none, Option, Some, None, codes, decimal}
use Rattle.base_text.specs.Digits.{Means}
use Rattle.base_text.specs.declared.digits.Stop.{Stop}
use Rattle.base_text.specs.declared.digits.Stop.TheVariants.{TextEnds}
use Rattle.tab_law.specs.Books.{Laws}
use Rattle.tab_load.specs.Faults.{number_of}
use Rattle.tab_load.specs.Loading.{HasFault, IsLoaded, IsReadFrom, Loaded}
use Rattle.tab_load.specs.declared.fault.ImageFault.{ImageFault}
use Rattle.tab_load.specs.declared.fault.ImageFault.TheVariants.{Magic, Cut, Count, Name, Unbound, Offset, BackJump}
use Rattle.tab_load.specs.declared.fault.ImageFault.TheVariants.{OpCode, NoEnd, Trailing}
use Rattle.tab_load.specs.declared.fault.LoadFault.{LoadFault}
use Rattle.image_text.specs.declared.reading.ImageError.{ImageError}
use Rattle.image_text.specs.declared.reading.ImageError.TheVariants.{NoMemory, BadHex, Refused}

-- the digits of a text spell these octets, blanks aside, and no digit is left over
abbrev pub Spells : (text octets : List ℕ) → Type 0
Spells text octets = Means None text octets None

-- the digits went to the text's end, and none is left over
abbrev pub is_whole : Stop → Option ℕ → Bool
is_whole TextEnds half = is_none half
is_whole stop half = false

-- a text gives this program: it spells the image's octets, and the program is what they hold, loaded with the book
pub record IsImageOf (laws : Laws) (text : List ℕ) (program : Loaded) : Type 0 where
  pub octets : List ℕ
  pub spelled : Spells text octets
  pub read : IsReadFrom laws octets program
  pub loaded : IsLoaded laws program

-- why a text spells no octets: memory was wanting, or it is another text
abbrev pub IsNoText : List ℕ → ImageError → Type 0
IsNoText text NoMemory = Unit {0}
IsNoText text BadHex = (octets : List ℕ) → Spells text octets → ⊥
IsNoText text (Refused fault) = ⊥

-- why a text gives no program: the same, or the octets that it spells have a fault, of which this is the first
abbrev pub IsNoImage : Laws → List ℕ → ImageError → Type 0
IsNoImage laws text NoMemory = Unit {0}
IsNoImage laws text BadHex = (octets : List ℕ) → Spells text octets → ⊥
IsNoImage laws text (Refused fault) = (octets : List ℕ) × Spells text octets × HasFault laws octets fault.at fault.code

-- what is wrong with an image, in words
unfoldable pub wrong_of : ImageFault → List ℕ
wrong_of Magic = codes "it doesn't begin as an image of a format that is known"
wrong_of Cut = codes "the image is cut off; it has that many octets"
wrong_of Count = codes "a number is out of range"
wrong_of Name = codes "a name is misspelled, or stands in its list twice"
wrong_of Unbound = codes "a name isn't registered"
wrong_of Offset = codes "no row begins at that offset, and no code ends there"
wrong_of BackJump = codes "a guard leads back"
wrong_of OpCode = codes "no instruction begins with that octet"
wrong_of NoEnd = codes "the code doesn't end"
wrong_of Trailing = codes "octets stand behind the code"

-- `at 97 fault 2`: the first fault of an image, and what it says
abbrev pub fault_text : LoadFault → List ℕ
fault_text fault =
    codes "at " ++ decimal fault.at ++ codes " fault " ++ decimal (number_of fault.code) ++ codes "\n  wrong: "
    ++ wrong_of fault.code
    ++ codes "\n"

-- what is told of a text that gives no program, if memory wasn't what lacked
abbrev pub refusal_text : ImageError → Option (List ℕ)
refusal_text NoMemory = None
refusal_text BadHex = Some
    (codes "bad hex\n  wanted: hexadecimal digits, two for each octet; blanks between them don't count\n")
refusal_text (Refused fault) = Some (fault_text fault)
