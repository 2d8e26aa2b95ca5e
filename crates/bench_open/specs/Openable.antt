-- What holds of what a bench is opened with, where it is opened.
use Rattle.std.specs.Prelude.{◌≡◌, ◌<◌, ◌≤◌, [], ◌∷◌, false, flat_map, length, map}
use Rattle.tab_law.specs.Books.{Laws}
use Rattle.tab_step.specs.Bind.{missing}
use Rattle.bench_item.specs.Past.{any_after}
use Rattle.bench_item.specs.declared.limit.TheConstants.{MAX_DESKS, MAX_PAGES, MAX_PEERS, MAX_SHARDS}
use Rattle.bench_spec.specs.Opening.{is_bad_account, is_repeated}
use Rattle.bench_open.specs.Given.{opened_as}
use Rattle.bench_open.specs.declared.config.Config.{Config}

-- numbers are within their limits, no peer is there twice, the tables name nothing that the laws lack, and each account
-- can be opened behind those before it
pub record IsOpenable (config : Config) (laws : Laws) : Type 0 where
  pub some_shard : 0 < config.shards
  pub few_shards : config.shards ≤ MAX_SHARDS
  pub some_page : 0 < config.pages
  pub few_pages : config.pages ≤ MAX_PAGES
  pub few_desks : config.desks ≤ MAX_DESKS
  pub few_peers : length config.peers.items ≤ MAX_PEERS
  pub apart : any_after is_repeated [] config.peers.items ≡ false
  pub bound : flat_map (missing laws) (config.peer ∷ config.client ∷ config.server ∷ []) ≡ []
  pub accounts : any_after (is_bad_account config.pages) [] (map opened_as config.accounts.items) ≡ false
