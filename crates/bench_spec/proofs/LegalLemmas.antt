-- Longer and shorter legal logs.
use Rattle.std.proofs.Common.{List, [], ◌∷◌, ◌++◌}
use Rattle.bench_item.specs.declared.entry.Entry.{Entry}
use Rattle.bench_spec.specs.Legal.{IsLegal, MayFollow}
use Rattle.bench_spec.specs.Settings.{Settings}
use Rattle.bench_spec.proofs.AfterLemmas.{EachAfter-front, EachAfter-last, EachAfter-snoc}

-- one more entry that may follow
pub IsLegal-snoc : (settings : Settings) (log : List Entry) (e : Entry) → IsLegal settings log
    → MayFollow settings log e → IsLegal settings (log ++ e ∷ [])
IsLegal-snoc settings log e legal follows = EachAfter-snoc (MayFollow settings) log e legal follows

-- a front
pub IsLegal-front : (settings : Settings) (log rest : List Entry) → IsLegal settings (log ++ rest)
    → IsLegal settings log
IsLegal-front settings log rest legal = EachAfter-front (MayFollow settings) [] log rest legal

-- the last entry
pub MayFollow-last : (settings : Settings) (log : List Entry) (e : Entry) → IsLegal settings (log ++ e ∷ [])
    → MayFollow settings log e
MayFollow-last settings log e legal = EachAfter-last (MayFollow settings) log e legal
