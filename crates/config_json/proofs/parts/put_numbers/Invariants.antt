use Rattle.std.proofs.Common.{◌≡◌, ◌++◌, take}
use Rattle.config_json.specs.Json.{numbers_text}
use Rattle.config_json.proofs.parts.put_numbers.Given as goal

-- those so far were put
abbrev pub invariant-loop-number : goal.invariant-loop-number
invariant-loop-number l = l.out.items ≡ l.initial.out.items ++ numbers_text (take l.number-index l.numbers)
