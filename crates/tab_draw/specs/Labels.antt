-- What is written at a row.
use Rattle.std.specs.Prelude.{ℕ, List, [], ◌∷◌, ◌++◌, codes, decimal}
use Rattle.std.specs.List.{flat_map}
use Rattle.tab_text.specs.Contents.{Contents}
use Rattle.tab_text.specs.Rows.{name_at}
use Rattle.tab_text.specs.declared.row.Row.{Row}

-- a guard behind another
abbrev pub and_guard : List (List ℕ) → ℕ → List ℕ
and_guard names guard = codes " and " ++ name_at names guard

-- the guards of a row: nothing, or `[guard and guard]`
abbrev pub guards_text : List (List ℕ) → List ℕ → List ℕ
guards_text names [] = []
guards_text names (guard ∷ guards) = codes " [" ++ name_at names guard ++ flat_map (and_guard names) guards ++ codes "]"

-- a row's number, the kind of its events and its guards: `2 CCA-I [mine and success]`
unfoldable pub label : Contents → ℕ × Row → List ℕ
label table (number, row) =
    decimal number ++ codes " " ++ name_at table.kinds row.kind ++ guards_text table.guards row.guards
