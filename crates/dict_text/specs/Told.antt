-- What is told of a wrong line of a dictionary.
use Rattle.std.specs.Prelude.{ℕ, List, [], ◌∷◌, ◌++◌, take, codes, decimal}
use Rattle.dia_show.specs.Parts.{quoted}
use Rattle.dict_text.specs.declared.wrong.Want.{Want}
use Rattle.dict_text.specs.declared.wrong.Want.TheVariants.{Code, Name, Kind, Value, NewCode, NewName, Room}
use Rattle.dict_text.specs.Wrong.{WrongAt}

-- what was wanted
unfoldable pub wanted_of : Want → List ℕ
wanted_of Code = codes "CODE[/VENDOR] NAME KIND [VALUE=NAME ..]: the AVP Code and the Vendor-ID as numbers below 2^32"
wanted_of Name = codes "a NAME behind the code, of printable characters"
wanted_of Kind = codes "a KIND behind the name: Unsigned32, Unsigned64, Enumerated, UTF8String, DiameterIdentity, Address, Grouped, Time or OctetString"
wanted_of Value = codes "VALUE=NAME, each VALUE once and below 2^32, behind Enumerated and Unsigned32 alone"
wanted_of NewCode = codes "a code and vendor that neither a line before nor the built-in dictionary has"
wanted_of NewName = codes "a name that neither a line before nor the built-in dictionary has"
wanted_of Room = codes "at most 200 AVPs, beside the 56 of the built-in dictionary"

-- the word that is wrong, at most 40 octets of it
abbrev pub word_text : List ℕ → List ℕ
word_text [] = []
word_text (c ∷ word) = codes ": " ++ quoted (take 40 (c ∷ word))

-- `dictionary line N`, the word that is wrong, and what was wanted in its place
unfoldable pub wrong_text : WrongAt → List ℕ
wrong_text w = codes "dictionary line " ++ decimal w.number
    ++ word_text w.word ++ codes "\n  wanted: " ++ wanted_of w.want ++ codes "\n"
