use Rattle.std.proofs.Common.{◌≡◌, ◌<◌, ◌^◌, true, take}
use Rattle.std.specs.List.{list_all}
use Rattle.base_text.specs.Numbers.{is_digit}
use Rattle.base_text.specs.Numbers.{decimal_value}
use Rattle.base_text.proofs.numbers.number_of.Given as goal

-- the characters so far are digits, and this is their value
abbrev pub invariant-loop-c : goal.invariant-loop-c
invariant-loop-c l =
    (l.value ≡ decimal_value (take l.c-index l.word)) × (list_all is_digit (take l.c-index l.word) ≡ true) × (l.value < 2 ^ 64)
