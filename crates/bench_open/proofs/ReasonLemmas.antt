-- The first of the reasons that hold.
use Rattle.std.proofs.Common.{◌≡◌, ℕ, Bool, true, false, List, [], ◌∷◌, ◌++◌, Option, Some, None, refl}
use Rattle.std.specs.Prelude.{find, map, option_map, slice_get}
use Rattle.bench_spec.specs.declared.opening.OpeningError.{OpeningError}
use Rattle.bench_spec.specs.declared.opening.OpeningError.TheVariants as errors

-- the reasons of an opening, by whether each holds
abbrev pub reasons_by : Bool → Bool → Bool → List (List ℕ) → Bool → List (Bool × OpeningError)
reasons_by limits names laws unbound account =
    (limits, errors.Limits)
    ∷ (names, errors.Names)
    ∷ (laws, errors.Laws)
    ∷ map (λ name. (true, errors.Unbound name)) unbound
    ++ (account, errors.Account)
    ∷ []

abbrev pub first_by : Bool → Bool → Bool → List (List ℕ) → Bool → Option OpeningError
first_by limits names laws unbound account =
    option_map (λ reason. reason.1) (find (λ reason. reason.0) (reasons_by limits names laws unbound account))

pub by-limits : (a b c : Bool) (names : List (List ℕ)) (d : Bool) → a ≡ true → first_by a b c names d ≡ Some errors.Limits
by-limits a b c names d t = rw t refl

pub by-names : (a b c : Bool) (names : List (List ℕ)) (d : Bool) → a ≡ false → b ≡ true → first_by a b c names d ≡ Some errors.Names
by-names a b c names d n t = rw (n, t) refl

pub by-laws : (a b c : Bool) (names : List (List ℕ)) (d : Bool) → a ≡ false → b ≡ false → c ≡ true → first_by a b c names d ≡ Some errors.Laws
by-laws a b c names d n m t = rw (n, m, t) refl

-- nothing is in the way but what comes behind the laws
pub record IsLawful (a b c : Bool) : Type 0 where
  pub limits : a ≡ false
  pub names : b ≡ false
  pub laws : c ≡ false

pub by-unbound : (a b c : Bool) (names : List (List ℕ)) (d : Bool) (name : List ℕ) → IsLawful a b c → slice_get names 0 ≡ Some name
    → first_by a b c names d ≡ Some (errors.Unbound name)
by-unbound a b c [] d name lawful some = absurd cc
by-unbound a b c (x ∷ names) d name lawful some = let same : x ≡ name = cc in rw (lawful.limits, lawful.names, lawful.laws, same) refl

pub by-account : (a b c : Bool) (names : List (List ℕ)) (d : Bool) → IsLawful a b c → slice_get names 0 ≡ None → d ≡ true
    → first_by a b c names d ≡ Some errors.Account
by-account a b c [] d lawful none t = rw (lawful.limits, lawful.names, lawful.laws, t) refl
by-account a b c (x ∷ names) d lawful none t = absurd cc

pub by-nothing : (a b c : Bool) (names : List (List ℕ)) (d : Bool) → IsLawful a b c → slice_get names 0 ≡ None → d ≡ false
    → first_by a b c names d ≡ None
by-nothing a b c [] d lawful none f = rw (lawful.limits, lawful.names, lawful.laws, f) refl
by-nothing a b c (x ∷ names) d lawful none f = absurd cc

-- no reason holds
pub record HoldsNone (a b c : Bool) (names : List (List ℕ)) (d : Bool) : Type 0 where
  pub lawful : IsLawful a b c
  pub bound : names ≡ []
  pub accounts : d ≡ false

pub holds-none : (a b c : Bool) (names : List (List ℕ)) (d : Bool) → first_by a b c names d ≡ None → HoldsNone a b c names d
holds-none true b c names d none = absurd cc
holds-none false true c names d none = absurd cc
holds-none false false true names d none = absurd cc
holds-none false false false (x ∷ names) d none = absurd cc
holds-none false false false [] true none = absurd cc
holds-none false false false [] false none = record { lawful = record { limits = refl; names = refl; laws = refl }; bound = refl; accounts = refl }
