-- What is printed of a deed.
use Rattle.std.specs.Prelude.{ℕ, ◌==◌, List, [], ◌∷◌, ◌++◌, Option, Some, None, codes}
use Rattle.std.specs.Prelude.{decimal, option_map, if◌then◌else◌}
use Rattle.std.specs.List.{flat_map, list_all}
use Rattle.base_codes.specs.DeedCodes.{coded, name_of}
use Rattle.tab_law.specs.declared.scene.Deed.{Deed}

-- the name of a deed
abbrev pub deed_name : ℕ → Option (List ℕ)
deed_name code = option_map name_of (coded code)

-- a name, or the number where there is none
abbrev pub name_or : Option (List ℕ) → ℕ → List ℕ
name_or None number = decimal number
name_or (Some name) number = name

-- without the zeros at the end
abbrev pub without_last_zeros : List ℕ → List ℕ
without_last_zeros [] = []
without_last_zeros (value ∷ values) =
    if list_all (λ v. v == 0) (value ∷ values) then [] else value ∷ without_last_zeros values

-- `Service 2`: a deed's name or code, and its arguments up to the last that isn't 0
abbrev pub deed_words : Deed → List ℕ
deed_words deed = name_or (deed_name deed.code) deed.code
    ++ flat_map (λ value. codes " " ++ decimal value) (without_last_zeros deed.a)

-- the same on a line of its own, behind two blanks
abbrev pub deed_line : Deed → List ℕ
deed_line deed = codes "  " ++ deed_words deed ++ codes "\n"
