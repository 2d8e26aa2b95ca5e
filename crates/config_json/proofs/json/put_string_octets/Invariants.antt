use Rattle.std.proofs.Common.{◌≡◌, ◌++◌, flat_map, take}
use Rattle.config_json.specs.Json.{string_octet}
use Rattle.config_json.proofs.json.put_string_octets.Given as goal

-- those so far were put
abbrev pub invariant-loop-octet : goal.invariant-loop-octet
invariant-loop-octet l = l.out.items ≡ l.initial.out.items ++ flat_map string_octet (take l.octet-index l.text)
