-- Guards that say no by their places in a book, and how many rows stand before one.
use Rattle.std.specs.Prelude.{ℕ, List, Option, Some, None, min, option_and_then}
use Rattle.std.specs.List.{slice_get}
use Rattle.tab_law.specs.Books.{Laws}
use Rattle.tab_law.specs.declared.law.Test.{Test}
use Rattle.tab_law.specs.declared.scene.Scene.{Scene}
use Rattle.tab_walk.specs.Whys.{no_of}

-- what the guard at a place says no for
abbrev pub no_at : Laws → Scene → ℕ → Option (List ℕ × Test)
no_at laws scene place = option_and_then (no_of scene) (slice_get laws.guards place)

-- the rows before the one that took an event, of so many
abbrev pub count_before : Option ℕ → ℕ → ℕ
count_before (Some number) rows = min number rows
count_before None rows = rows
