use Rattle.std.proofs.Common.{◌≡◌, ◌++◌, flat_map, take}
use Rattle.config_json.specs.Json.{account_item}
use Rattle.config_json.proofs.parts.put_account_items.Given as goal

-- those so far were put
abbrev pub invariant-loop-account : goal.invariant-loop-account
invariant-loop-account l = l.out.items ≡ l.initial.out.items ++ flat_map account_item (take l.account-index l.accounts)
