use Rattle.std.proofs.Common.{◌≡◌, ◌∙◌, ℕ, List, Option, None, Some, Contains, slice_get, sym, ap}
use Rattle.std.specs.Option.{IfSome, IfNone}
use Rattle.sess_dir.specs.Names.{place_of}
use Rattle.sess_dir.proofs.Places.{place_of-octets_of, slice_get-place_of, absent-place_of}
use Rattle.sess_dir.proofs.directory.Directory.find.Goals as goal

-- what is found stands there
found_of : (names : List (List ℕ)) (name : List ℕ) (r : Option ℕ) → r ≡ place_of names name
    → IfSome r (λ i. slice_get names i ≡ Some name)
found_of names name None is = tt
found_of names name (Some i) is = slice_get-place_of names name i (sym is)

-- what is not found stands nowhere
absent_of : (names : List (List ℕ)) (name : List ℕ) (r : Option ℕ) → r ≡ place_of names name
    → IfNone r (Contains names name → ⊥)
absent_of names name None is = absent-place_of names name (sym is)
absent_of names name (Some i) is = tt

pub returns-clause-place : goal.returns-clause-place
returns-clause-place c =
    c.get_index_of.ensures.index ∙ place_of-octets_of c.self.inside.names.keys c.args.name.now
    ∙ ap (λ names. place_of names c.args.name.now) c.self.view_is

pub returns-clause-found : goal.returns-clause-found
returns-clause-found c = found_of _ c.args.name.now c.get_index_of.result (returns-clause-place c)

pub returns-clause-absent : goal.returns-clause-absent
returns-clause-absent c = absent_of _ c.args.name.now c.get_index_of.result (returns-clause-place c)
