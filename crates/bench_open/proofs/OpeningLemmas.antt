-- The reason that is told.
use Rattle.std.proofs.Common.{◌≡◌, ℕ, true, false, List, [], Some, None, map, sym}
use Rattle.std.specs.Prelude.{slice_get}
use Rattle.tab_law.specs.Books.{Laws}
use Rattle.bench_item.specs.Past.{any_after}
use Rattle.bench_spec.specs.Opening.{has_bad_laws, has_bad_names, is_bad_account, is_past_limits, opening_refusal, unbound}
use Rattle.bench_spec.specs.declared.opening.OpeningError.TheVariants as errors
use Rattle.bench_open.specs.Given.{config_of, opened_as}
use Rattle.bench_open.specs.declared.config.Config.{Config}
use Rattle.bench_open.proofs.ReasonLemmas.{IsLawful, by-account, by-laws, by-nothing, by-unbound}

-- nothing is in the way of a configuration but what comes behind the laws
abbrev pub IsLawfulFor : Config → List Laws → Type 0
IsLawfulFor config books = IsLawful (is_past_limits (config_of config books)) (has_bad_names (config_of config books)) (has_bad_laws (config_of config books))

pub tells-laws : (config : Config) (books : List Laws) → is_past_limits (config_of config books) ≡ false → has_bad_names (config_of config books) ≡ false
    → has_bad_laws (config_of config books) ≡ true → Some errors.Laws ≡ opening_refusal (config_of config books)
tells-laws config books n m t =
    sym (by-laws (is_past_limits (config_of config books)) (has_bad_names (config_of config books)) (has_bad_laws (config_of config books)) (unbound (config_of config books)) (any_after (is_bad_account config.pages) [] (map opened_as config.accounts.items)) n m t)

pub tells-unbound : (config : Config) (books : List Laws) (name : List ℕ) → IsLawfulFor config books → Some name ≡ slice_get (unbound (config_of config books)) 0
    → Some (errors.Unbound name) ≡ opening_refusal (config_of config books)
tells-unbound config books name lawful is =
    sym (by-unbound (is_past_limits (config_of config books)) (has_bad_names (config_of config books)) (has_bad_laws (config_of config books)) (unbound (config_of config books)) (any_after (is_bad_account config.pages) [] (map opened_as config.accounts.items)) name lawful (sym is))

pub tells-account : (config : Config) (books : List Laws) → IsLawfulFor config books → None ≡ slice_get (unbound (config_of config books)) 0
    → any_after (is_bad_account config.pages) [] (map opened_as config.accounts.items) ≡ true → Some errors.Account ≡ opening_refusal (config_of config books)
tells-account config books lawful none t =
    sym (by-account (is_past_limits (config_of config books)) (has_bad_names (config_of config books)) (has_bad_laws (config_of config books)) (unbound (config_of config books)) (any_after (is_bad_account config.pages) [] (map opened_as config.accounts.items)) lawful (sym none) t)

pub tells-nothing : (config : Config) (books : List Laws) → IsLawfulFor config books → None ≡ slice_get (unbound (config_of config books)) 0
    → any_after (is_bad_account config.pages) [] (map opened_as config.accounts.items) ≡ false → None ≡ opening_refusal (config_of config books)
tells-nothing config books lawful none f =
    sym (by-nothing (is_past_limits (config_of config books)) (has_bad_names (config_of config books)) (has_bad_laws (config_of config books)) (unbound (config_of config books)) (any_after (is_bad_account config.pages) [] (map opened_as config.accounts.items)) lawful (sym none) f)
