use Rattle.std.proofs.Common.{◌≡◌, filter_map, take}
use Rattle.live_desk.specs.Keys.{starts_of}
use Rattle.live_desk.proofs.keys.started_by.Given as goal

-- those of the texts so far
abbrev pub invariant-loop-text : goal.invariant-loop-text
invariant-loop-text l = l.keys.items ≡ filter_map starts_of (take l.text-index l.texts)
