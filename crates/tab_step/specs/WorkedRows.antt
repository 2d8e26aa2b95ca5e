-- Rows of a small table, taken and not.
use Rattle.std.specs.Prelude.{◌≡◌, ℕ, Bool, true, List, [], ◌∷◌, Option, Some, None, refl, codes}
use Rattle.std.specs.Str.{bytes_eq}
use Rattle.tab_text.specs.Contents.{Contents}
use Rattle.tab_text.specs.declared.row.Row.{Row}
use Rattle.tab_step.specs.Moves.{pick}

-- `Wait: CCA-I when mine and success / Grant-Service / Done`
abbrev granting : Row
granting = record { state = 0; kind = 0; guards = 0 ∷ 1 ∷ []; actions = 0 ∷ []; next = 1 }

-- `Wait: CCA-I / End-Service / Wait`
abbrev ending : Row
ending = record { state = 0; kind = 0; guards = []; actions = 1 ∷ []; next = 0 }

abbrev table : Contents
table = record {
  states = codes "Wait" ∷ codes "Done" ∷ [];
  kinds = codes "CCA-I" ∷ [];
  guards = codes "mine" ∷ codes "success" ∷ [];
  actions = codes "Grant-Service" ∷ codes "End-Service" ∷ [];
  rows = granting ∷ ending ∷ [];
  lines = 2 ∷ 3 ∷ [];
}

-- the row of an answer of that kind in state Wait, by what the guards answer
abbrev taken : List ℕ → (List ℕ → Bool) → Option (ℕ × Row)
taken kind answers = pick table 0 (bytes_eq kind) answers

pub mine_alone : taken (codes "CCA-I") (bytes_eq (codes "mine")) ≡ Some (1, ending)
mine_alone = refl

pub both : taken (codes "CCA-I") (λ guard. true) ≡ Some (0, granting)
both = refl

pub success_alone : taken (codes "CCA-I") (bytes_eq (codes "success")) ≡ Some (1, ending)
success_alone = refl

-- a kind that the table doesn't name has no row
pub other_kind : taken (codes "Tx") (λ guard. true) ≡ None
other_kind = refl
