use Rattle.std.proofs.Common.{◌≡◌, ◌++◌, filter_map, take}
use Rattle.live_desk.specs.Keys.{machine_of_text}
use Rattle.live_desk.proofs.keys.add_told.Given as goal

-- those of the texts so far
abbrev pub invariant-loop-text : goal.invariant-loop-text
invariant-loop-text l =
    l.keys.items ≡ l.initial.keys.items ++ filter_map (machine_of_text l.laws l.desk l.round) (take l.text-index l.texts)
