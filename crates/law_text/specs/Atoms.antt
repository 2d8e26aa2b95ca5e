-- Laws in words: atoms, terms, fields, and the separators between words.
use Rattle.std.specs.Prelude.{ℕ, ◌%◌, List, [], ◌∷◌, ◌++◌, codes, decimal}
use Rattle.std.specs.List.{flat_map}
use Rattle.tab_law.specs.declared.law.Atom.{Atom}
use Rattle.tab_law.specs.declared.law.Atom.TheVariants.{Constant, Register, Fact, NewRegister}
use Rattle.tab_law.specs.declared.law.Field.{Field}
use Rattle.tab_law.specs.declared.law.Field.TheVariants as fields
use Rattle.tab_law.specs.declared.law.Term.{Term}
use Rattle.tab_law.specs.declared.law.Term.TheVariants.{Just, Sum, Difference, Least}
use Rattle.tab_law.specs.declared.limits.TheConstants.{PLACES}
use Rattle.law_text.specs.declared.words.Reads.{Reads}
use Rattle.law_text.specs.declared.words.Reads.TheVariants.{Before, After}

-- `r2`: a letter and the place that a number counts round to
unfoldable pub place_text : List ℕ → ℕ → List ℕ
place_text letter number = letter ++ decimal (number % PLACES)

-- a register that is read as the action leaves it, where there is one
abbrev pub new_text : Reads → ℕ → List ℕ
new_text Before number = place_text (codes "r") number
new_text After number = place_text (codes "r") number ++ codes " after"

-- `30`, `r2`, `f5`, `r2 after`
unfoldable pub atom_text : Reads → Atom → List ℕ
atom_text reads (Constant value) = decimal value
atom_text reads (Register number) = place_text (codes "r") number
atom_text reads (Fact number) = place_text (codes "f") number
atom_text reads (NewRegister number) = new_text reads number

-- `r2 + 1`, `r2 - 1`, `least of r2 and f5`
unfoldable pub term_text : Reads → Term → List ℕ
term_text reads (Just a) = atom_text reads a
term_text reads (Sum a b) = atom_text reads a ++ codes " + " ++ atom_text reads b
term_text reads (Difference a b) = atom_text reads a ++ codes " - " ++ atom_text reads b
term_text reads (Least a b) = codes "least of " ++ atom_text reads a ++ codes " and " ++ atom_text reads b

-- what a test looks at
unfoldable pub field_text : Field → List ℕ
field_text (fields.Register number) = place_text (codes "r") number
field_text (fields.Fact number) = place_text (codes "f") number

-- texts with a separator between them
abbrev pub separated : {T : Type 0} → List ℕ → (T → List ℕ) → List T → List ℕ
separated separator text [] = []
separated separator text (first ∷ others) = text first ++ flat_map (λ other. separator ++ text other) others
