-- What holds where nothing is in the way of an opening.
use Rattle.std.proofs.Common.{◌≡◌, ◌<◌, ◌≤◌, ℕ, Bool, false, List, [], ◌∷◌, None, arith, length}
use Rattle.std.specs.Prelude.{◌==◌, ◌&&◌, ◌||◌, map, nat_le, nat_lt, not}
use Rattle.std.proofs.lemmas.Bool.{and_parts, eqb-true, leb-true, ltb-false, ltb-true, not-false, or_parts}
use Rattle.std.proofs.lemmas.List.{length-map}
use Rattle.tab_law.specs.Books.{Laws}
use Rattle.bench_item.specs.Past.{any_after}
use Rattle.bench_item.specs.declared.limit.TheConstants.{MAX_DESKS, MAX_PAGES, MAX_PEERS, MAX_SHARDS}
use Rattle.bench_spec.specs.Opening.{has_bad_laws, has_bad_names, is_bad_account, is_name, is_past_limits, is_repeated, is_within, opening_refusal, unbound}
use Rattle.std.specs.List.{list_all}
use Rattle.bench_open.specs.Given.{config_of, first_of, opened_as}
use Rattle.bench_open.specs.Openable.{IsOpenable}
use Rattle.bench_open.specs.declared.config.Config.{Config}
use Rattle.bench_open.proofs.ReasonLemmas.{holds-none}

-- numbers that are within their limits
pub record AreWithin (shards pages desks peers : ℕ) : Type 0 where
  pub some_shard : 0 < shards
  pub few_shards : shards ≤ MAX_SHARDS
  pub some_page : 0 < pages
  pub few_pages : pages ≤ MAX_PAGES
  pub few_desks : desks ≤ MAX_DESKS
  pub few_peers : peers ≤ MAX_PEERS

pub within : (shards pages desks peers : ℕ) (same : Bool)
    → (not (is_within MAX_SHARDS shards && is_within MAX_PAGES pages) || nat_lt MAX_DESKS desks || nat_lt MAX_PEERS peers || not same) ≡ false
    → AreWithin shards pages desks peers
within shards pages desks peers same h =
    let front = or_parts ((not (is_within MAX_SHARDS shards && is_within MAX_PAGES pages) || nat_lt MAX_DESKS desks) || nat_lt MAX_PEERS peers) (not same) h in
    let three = or_parts (not (is_within MAX_SHARDS shards && is_within MAX_PAGES pages) || nat_lt MAX_DESKS desks) (nat_lt MAX_PEERS peers) front.0 in
    let two = or_parts (not (is_within MAX_SHARDS shards && is_within MAX_PAGES pages)) (nat_lt MAX_DESKS desks) three.0 in
    let both = and_parts (is_within MAX_SHARDS shards) (is_within MAX_PAGES pages) (not-false (is_within MAX_SHARDS shards && is_within MAX_PAGES pages) two.0) in
    let of_shards = and_parts (nat_lt 0 shards) (nat_le shards MAX_SHARDS) both.0 in
    let of_pages = and_parts (nat_lt 0 pages) (nat_le pages MAX_PAGES) both.1 in
    record {
      some_shard = ltb-true 0 shards of_shards.0;
      few_shards = leb-true shards MAX_SHARDS of_shards.1;
      some_page = ltb-true 0 pages of_pages.0;
      few_pages = leb-true pages MAX_PAGES of_pages.1;
      few_desks = ltb-false MAX_DESKS desks two.1;
      few_peers = ltb-false MAX_PEERS peers three.1;
    }

-- there is a registry where numbers are within their limits
pub some-registry : {R : Type 0} (book : R → Laws) (rs : List R) (config : Config) → is_past_limits (config_of config (map book rs)) ≡ false → 0 < length rs
some-registry book rs config free =
    let numbers = within config.shards config.pages config.desks (length config.peers.items) (length (map book rs) == config.shards) free in
    let parts = or_parts ((not (is_within MAX_SHARDS config.shards && is_within MAX_PAGES config.pages) || nat_lt MAX_DESKS config.desks) || nat_lt MAX_PEERS (length config.peers.items)) (not (length (map book rs) == config.shards)) free in
    let same : length (map book rs) ≡ config.shards = eqb-true (length (map book rs)) config.shards (not-false (length (map book rs) == config.shards) parts.1) in
    omega (arith, numbers.some_shard, same, length-map rs book)

pub can-open : (config : Config) (books : List Laws) → opening_refusal (config_of config books) ≡ None → IsOpenable config (first_of books)
can-open config books none =
    let handed = config_of config books in
    let free = holds-none (is_past_limits handed) (has_bad_names handed) (has_bad_laws handed) (unbound handed) (any_after (is_bad_account config.pages) [] (map opened_as config.accounts.items)) none in
    let numbers = within config.shards config.pages config.desks (length config.peers.items) (length books == config.shards) free.lawful.limits in
    record {
      some_shard = numbers.some_shard;
      few_shards = numbers.few_shards;
      some_page = numbers.some_page;
      few_pages = numbers.few_pages;
      few_desks = numbers.few_desks;
      few_peers = numbers.few_peers;
      apart = (or_parts (not (list_all is_name (config.identity.host ∷ config.identity.realm ∷ config.peers.items))) (any_after is_repeated [] config.peers.items) free.lawful.names).1;
      bound = free.bound;
      accounts = free.accounts;
    }
