-- Laws of registries.
use Rattle.std.proofs.Common.{◌≡◌, List, [], ◌∷◌, None, map, refl}
use Rattle.std.specs.Prelude.{slice_get}
use Rattle.bench_open.specs.Given.{first_of}
use Rattle.bench_spec.specs.Opening.{no_laws}
use Rattle.tab_law.specs.Books.{Laws}

-- without a registry there are no laws
pub no_books : {R : Type 0} (book : R → Laws) (registries : List R) → None ≡ slice_get registries 0 → first_of (map book registries) ≡ no_laws
no_books book [] none = refl
no_books book (registry ∷ registries) none = absurd cc
