-- The laws of a bench that was opened with registries of all laws.
use Rattle.std.proofs.Common.{◌≡◌, ◌<◌, List, [], ◌∷◌, None, arith, length}
use Rattle.std.specs.Prelude.{map}
use Rattle.std.specs.List.{AllByRecursion as Each}
use Rattle.bench_item.specs.Past.{any_after}
use Rattle.bench_open.specs.Given.{config_of, first_of, opened_as}
use Rattle.bench_open.specs.declared.config.Config.{Config}
use Rattle.bench_open.proofs.OpenableLemmas.{some-registry}
use Rattle.bench_open.proofs.ReasonLemmas.{holds-none}
use Rattle.bench_spec.specs.Opening.{has_bad_laws, has_bad_names, is_bad_account, is_past_limits, opening_refusal, unbound}
use Rattle.tab_law.specs.Books.{Laws}

first_has : {R : Type 0} (book : R → Laws) (rs : List R) (laws : Laws) → 0 < length rs → Each (λ r. book r ≡ laws) rs → first_of (map book rs) ≡ laws
first_has book [] laws some each = absurd (omega (arith, some))
first_has book (r ∷ rs) laws some each = each.0

pub opened_laws : {R : Type 0} (book : R → Laws) (rs : List R) (config : Config) (laws : Laws) → opening_refusal (config_of config (map book rs)) ≡ None
    → Each (λ r. book r ≡ laws) rs → first_of (map book rs) ≡ laws
opened_laws book rs config laws none each =
    let handed = config_of config (map book rs) in
    let free = holds-none (is_past_limits handed) (has_bad_names handed) (has_bad_laws handed) (unbound handed) (any_after (is_bad_account config.pages) [] (map opened_as config.accounts.items)) none in
    first_has book rs laws (some-registry book rs config free.lawful.limits) each
