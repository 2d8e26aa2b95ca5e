-- A configuration that nothing is in the way of, with its registries.
use Rattle.std.proofs.Common.{◌≡◌, ◌<◌, List, [], None, length, map}
use Rattle.tab_law.specs.Books.{Laws}
use Rattle.bench_item.specs.Past.{any_after}
use Rattle.bench_open.specs.Given.{config_of, opened_as}
use Rattle.bench_open.specs.declared.config.Config.{Config}
use Rattle.bench_open.proofs.OpenableLemmas.{some-registry}
use Rattle.bench_open.proofs.ReasonLemmas.{holds-none}
use Rattle.bench_spec.specs.Opening.{has_bad_laws, has_bad_names, is_bad_account, is_past_limits, opening_refusal, unbound}

-- there is a registry
pub registry-there : {R : Type 0} (book : R → Laws) (rs : List R) (config : Config) → opening_refusal (config_of config (map book rs)) ≡ None → 0 < length rs
registry-there book rs config none =
    some-registry book rs config
    (holds-none (is_past_limits (config_of config (map book rs))) (has_bad_names (config_of config (map book rs))) (has_bad_laws (config_of config (map book rs))) (unbound (config_of config (map book rs))) (any_after (is_bad_account config.pages) [] (map opened_as config.accounts.items)) none).lawful.limits
