-- Images of a small table, octet by octet.
use Rattle.std.specs.Prelude.{◌≡◌, ℕ, List, [], ◌∷◌, ◌++◌, Some, None, refl, codes}
use Rattle.tab_text.specs.Contents.{Contents}
use Rattle.tab_asm.specs.Formats.{format_1, format_2, BeginRow, TestGuard, RunAction, GoTo, NoRow, code_of}
use Rattle.tab_asm.specs.Images.{image_octets}
use Rattle.tab_asm.specs.Assembled.{image_of, code_to}

-- `Wait: CCA-I when mine and success / Grant-Service / Done`, then `Wait: CCA-I / End-Service / Wait`
abbrev waiting : Contents
waiting = record {
  rows = record { state = 0; kind = 0; guards = 0 ∷ 1 ∷ []; actions = 0 ∷ []; next = 1 }
      ∷ record { state = 0; kind = 0; guards = []; actions = 1 ∷ []; next = 0 } ∷ [];
  lines = 2 ∷ 3 ∷ [];
  states = codes "Wait" ∷ codes "Done" ∷ [];
  kinds = codes "CCA-I" ∷ [];
  guards = codes "mine" ∷ codes "success" ∷ [];
  actions = codes "Grant-Service" ∷ codes "End-Service" ∷ [];
}

-- the names, each behind its length
abbrev names_octets : List ℕ
names_octets =
    4 ∷ codes "Wait" ++ 4 ∷ codes "Done" ++ 5 ∷ codes "CCA-I" ++ 4 ∷ codes "mine" ++ 7 ∷ codes "success"
    ++ 13 ∷ codes "Grant-Service"
    ++ 11 ∷ codes "End-Service"

abbrev count_octets : List ℕ
count_octets = 0 ∷ 2 ∷ 0 ∷ 1 ∷ 0 ∷ 2 ∷ 0 ∷ 2 ∷ 0 ∷ 2 ∷ []

-- its image in format 2: two entries, the second without rows, and 27 octets of code
pub in_format_2 : image_octets format_2 (image_of waiting) ≡ codes "DTI2" ++ count_octets ++ names_octets
    ++ 0 ∷ 0 ∷ 0 ∷ 0 ∷ 255 ∷ 255 ∷ 255 ∷ 255 ∷ 0 ∷ 0 ∷ 0 ∷ 27 ∷ []
    ++ 1 ∷ 0 ∷ 0 ∷ 2 ∷ 0 ∷ 0 ∷ 0 ∷ 0 ∷ 19 ∷ 2 ∷ 1 ∷ 0 ∷ 0 ∷ 0 ∷ 19 ∷ 3 ∷ 0 ∷ 4 ∷ 1 ∷ 1 ∷ 0 ∷ 1 ∷ 3 ∷ 1 ∷ 4 ∷ 0 ∷ 5 ∷ []
unfolding image_octets code_to
in_format_2 = refl

-- and in format 1: offsets and the code's length have two octets
pub in_format_1 : image_octets format_1 (record
    (image_of waiting) {
      entries = Some 0 ∷ None
          ∷ [];
      code = code_of format_1 (BeginRow 0 ∷ TestGuard 0 15 ∷ TestGuard 1 15 ∷ RunAction 0 ∷ GoTo 1 ∷ BeginRow 1
          ∷ RunAction 1 ∷ GoTo 0 ∷ NoRow ∷ []);
    }) ≡ codes "DTI1" ++ count_octets ++ names_octets
    ++ 0 ∷ 0 ∷ 255 ∷ 255 ∷ 0 ∷ 23 ∷ []
    ++ 1 ∷ 0 ∷ 0 ∷ 2 ∷ 0 ∷ 0 ∷ 15 ∷ 2 ∷ 1 ∷ 0 ∷ 15 ∷ 3 ∷ 0 ∷ 4 ∷ 1 ∷ 1 ∷ 0 ∷ 1 ∷ 3 ∷ 1 ∷ 4 ∷ 0 ∷ 5 ∷ []
unfolding image_octets
in_format_1 = refl
