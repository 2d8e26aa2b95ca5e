use Rattle.std.proofs.Common.{◌≡◌, true, map, take}
use Rattle.std.specs.List.{list_all}
use Rattle.live_desk.specs.Desks.{words_of}
use Rattle.live_desk.specs.Read.{can_tell}
use Rattle.live_desk.proofs.desk.read_texts.Given as goal

-- the texts so far, each of which the desk can tell
abbrev pub invariant-loop-words : goal.invariant-loop-words
invariant-loop-words l =
    (map words_of l.texts.items ≡ take l.words-index l.lines)
    × (list_all (can_tell l.core l.desk) (take l.words-index l.lines) ≡ true)
