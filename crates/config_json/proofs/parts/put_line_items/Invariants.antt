use Rattle.std.proofs.Common.{◌≡◌, ◌++◌, flat_map, take}
use Rattle.config_json.specs.Json.{line_item}
use Rattle.config_json.proofs.parts.put_line_items.Given as goal

-- those so far were put
abbrev pub invariant-loop-line : goal.invariant-loop-line
invariant-loop-line l = l.out.items ≡ l.initial.out.items ++ flat_map line_item (take l.line-index l.lines)
