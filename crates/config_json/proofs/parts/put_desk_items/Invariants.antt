use Rattle.std.proofs.Common.{◌≡◌, ◌++◌, flat_map, take}
use Rattle.config_json.specs.Json.{desk_item}
use Rattle.config_json.proofs.parts.put_desk_items.Given as goal

-- those so far were put
abbrev pub invariant-loop-desk : goal.invariant-loop-desk
invariant-loop-desk l = l.out.items ≡ l.initial.out.items ++ flat_map desk_item (take l.desk-index l.desks)
