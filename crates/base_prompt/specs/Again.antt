-- What an empty line means.
use Rattle.std.specs.Prelude.{◌≡◌, ℕ, ◌&&◌, nat_le, List, length, Option, Some, None, codes, if◌then◌else◌}
use Rattle.std.specs.Str.{bytes_eq}
use Rattle.base_prompt.specs.declared.again.Again.{Again}
use Rattle.base_prompt.specs.declared.again.Again.TheVariants.{Step, Back, Go, ReverseGo}

-- the line of a command
abbrev pub line_of : Again → List ℕ
line_of Step = codes "step\n"
line_of Back = codes "back\n"
line_of Go = codes "go\n"
line_of ReverseGo = codes "rgo\n"

-- the command of a line, if an empty line may repeat it
abbrev pub again_of : List ℕ → Option Again
again_of line =
    if bytes_eq line (codes "step\n") then Some Step
    else if bytes_eq line (codes "back\n") then Some Back
    else if bytes_eq line (codes "go\n") then Some Go
    else if bytes_eq line (codes "rgo\n") then Some ReverseGo
    else None

-- the command that is repeated behind a line: that of the line, or else the one before
abbrev pub or_last : Option Again → Option Again → Option Again
or_last (Some again) last = Some again
or_last None last = last

abbrev pub after : Option Again → List ℕ → Option Again
after last line = or_last (again_of line) last

-- what a line means: an empty one the last command that may be repeated, where there is room for it, and any other
-- itself
abbrev pub meant : Option Again → List ℕ → (room : ℕ) → List ℕ
meant None line room = line
meant (Some again) line room =
    if bytes_eq line (codes "\n") && nat_le (length (line_of again)) room then line_of again else line

abbrev pub is_meant : Option Again → (line : List ℕ) → (room : ℕ) → (read : List ℕ) → Type 0
is_meant last line room read = read ≡ meant last line room

-- what is known of an input that is no terminal; of a terminal nothing is
abbrev pub known_without : {W : Type 0} → Option W → Option (List ℕ) → Option (List ℕ)
known_without None known = known
known_without (Some prompts) known = None
