-- Numbers in places, of which those at the end are zero.
use Rattle.std.specs.Prelude.{ℕ, ◌-◌, List, ◌++◌, length, replicate}
use Rattle.tab_law.specs.declared.limits.TheConstants.{PLACES}

-- these numbers in front, and zeros at all other places
abbrev pub padded : List ℕ → List ℕ
padded values = values ++ replicate (PLACES - length values) 0
