-- Laws in words: tests, changes, guards, actions and whole books.
use Rattle.std.specs.Prelude.{ℕ, List, [], ◌∷◌, ◌++◌, codes, decimal}
use Rattle.std.specs.List.{flat_map}
use Rattle.std.specs.Option.{option_map_or}
use Rattle.base_codes.specs.DeedCodes.{coded, name_of}
use Rattle.base_list.specs.declared.named.Named.{Named}
use Rattle.tab_law.specs.Books.{Laws}
use Rattle.tab_law.specs.declared.law.Change.{Change}
use Rattle.tab_law.specs.declared.law.Change.TheVariants.{Set, Pick, Emit, EmitIf}
use Rattle.tab_law.specs.declared.law.Term.{Term}
use Rattle.tab_law.specs.declared.law.Test.{Test}
use Rattle.tab_law.specs.declared.law.Test.TheVariants.{Equal, Differing, Below, AtLeast, Among}
use Rattle.law_text.specs.Atoms.{atom_text, field_text, place_text, separated, term_text}
use Rattle.law_text.specs.declared.words.Reads.TheVariants.{Before, After}

-- `f6 = r1`, `f12 <> 5030`, `f6 < r1`, `f13 >= f9`, `f12 in 4010, 5030`
unfoldable pub test_text : Test → List ℕ
test_text (Equal field atom) = field_text field ++ codes " = " ++ atom_text Before atom
test_text (Differing field atom) = field_text field ++ codes " <> " ++ atom_text Before atom
test_text (Below field atom) = field_text field ++ codes " < " ++ atom_text Before atom
test_text (AtLeast field atom) = field_text field ++ codes " >= " ++ atom_text Before atom
test_text (Among field numbers) = field_text field ++ codes " in " ++ separated (codes ", ") decimal numbers

-- a deed's name, or its code where it has none
unfoldable pub deed_text : ℕ → List ℕ
deed_text code = option_map_or name_of (coded code) (decimal code)

-- `Dial(r14, r2 after)`
unfoldable pub emit_text : ℕ → List Term → List ℕ
emit_text code terms = deed_text code ++ codes "(" ++ separated (codes ", ") (term_text After) terms ++ codes ")"

-- `r2 := r2 + 1`, `r3 := 1 to f13`, `Dial(r14, r2 after)`, `Debit(f18, f17) unless r17 after is 0`
unfoldable pub change_text : Change → List ℕ
change_text (Set register term) = place_text (codes "r") register ++ codes " := " ++ term_text Before term
change_text (Pick register low high) =
    place_text (codes "r") register ++ codes " := " ++ term_text Before low ++ codes " to " ++ term_text Before high
change_text (Emit code terms) = emit_text code terms
change_text (EmitIf atom code terms) = emit_text code terms ++ codes " unless " ++ atom_text After atom ++ codes " is 0"

-- a list in words, or a word where it is empty
abbrev pub listed : {T : Type 0} → (empty separator : List ℕ) → (T → List ℕ) → List T → List ℕ
listed empty separator text [] = empty
listed empty separator text (first ∷ others) = separated separator text (first ∷ others)

-- `  mine: f6 = r1`
unfoldable pub guard_line : Named (List Test) → List ℕ
guard_line entry =
    codes "  " ++ entry.name ++ codes ": " ++ listed (codes "always") (codes " and ") test_text entry.value
    ++ codes "\n"

-- `  I-Snd-CER: r0 := f1; r7 := r7 + 1; Snd-CER(0, f1, r14, r7 after)`
unfoldable pub act_line : Named (List Change) → List ℕ
act_line entry =
    codes "  " ++ entry.name ++ codes ": " ++ listed (codes "nothing") (codes "; ") change_text entry.value
    ++ codes "\n"

-- a kind of events is its name
abbrev pub kind_line : Named (Unit {0}) → List ℕ
kind_line entry = codes "  " ++ entry.name ++ codes "\n"

-- each kind, guard and action of a book, a line each
abbrev pub book_text : Laws → List ℕ
book_text laws =
    codes "kinds\n" ++ flat_map kind_line laws.kinds ++ codes "guards\n" ++ flat_map guard_line laws.guards
    ++ codes "actions\n"
    ++ flat_map act_line laws.acts
