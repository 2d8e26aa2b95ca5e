-- Why a guard says no: the first test of its law that isn't met, in words.
use Rattle.std.specs.Prelude.{ℕ, not, List, [], ◌++◌, Option, codes, decimal}
use Rattle.std.specs.List.{find}
use Rattle.tab_law.specs.Guards.{field_value, is_met}
use Rattle.tab_law.specs.Values.{atom_value}
use Rattle.tab_law.specs.declared.law.Atom.{Atom}
use Rattle.tab_law.specs.declared.law.Atom.TheVariants.{Constant, Register, Fact, NewRegister}
use Rattle.tab_law.specs.declared.law.Field.{Field}
use Rattle.tab_law.specs.declared.law.Field.TheVariants as fields
use Rattle.tab_law.specs.declared.law.Test.{Test}
use Rattle.tab_law.specs.declared.law.Test.TheVariants.{Equal, Differing, Below, AtLeast, Among}
use Rattle.tab_law.specs.declared.scene.Scene.{Scene}
use Rattle.law_text.specs.Atoms.{atom_text, place_text}
use Rattle.law_text.specs.Sentences.{test_text}
use Rattle.law_text.specs.declared.words.Reads.TheVariants.{Before}

-- the first test of a law that isn't met on a scene
abbrev pub first_unmet : Scene → List Test → Option Test
first_unmet scene law = find (λ test. not (is_met scene test)) law

-- what a test looks at
abbrev pub field_of : Test → Field
field_of (Equal field atom) = field
field_of (Differing field atom) = field
field_of (Below field atom) = field
field_of (AtLeast field atom) = field
field_of (Among field numbers) = field

-- `fact 12`, `register 3`
unfoldable pub field_words : Field → List ℕ
field_words (fields.Register number) = place_text (codes "register ") number
field_words (fields.Fact number) = place_text (codes "fact ") number

-- an atom and its value
abbrev pub atom_is : Scene → Atom → List ℕ
atom_is scene atom =
    codes ", where " ++ atom_text Before atom ++ codes " is " ++ decimal (atom_value scene scene.regs atom)

-- the value of what a field is compared with, where the law doesn't say it: `, where r1 is 3`
unfoldable pub atom_note : Scene → Atom → List ℕ
atom_note scene (Constant value) = []
atom_note scene (Register number) = atom_is scene (Register number)
atom_note scene (Fact number) = atom_is scene (Fact number)
atom_note scene (NewRegister number) = atom_is scene (NewRegister number)

-- the same for a test
abbrev pub note_of : Scene → Test → List ℕ
note_of scene (Equal field atom) = atom_note scene atom
note_of scene (Differing field atom) = atom_note scene atom
note_of scene (Below field atom) = atom_note scene atom
note_of scene (AtLeast field atom) = atom_note scene atom
note_of scene (Among field numbers) = []

-- `fact 12 is 4012, wanted f12 in 2001, 2002`: what a test looked at and the value there, and what was wanted
unfoldable pub unmet_text : Scene → Test → List ℕ
unmet_text scene test =
    field_words (field_of test) ++ codes " is " ++ decimal (field_value scene (field_of test)) ++ codes ", wanted "
    ++ test_text test
    ++ note_of scene test
