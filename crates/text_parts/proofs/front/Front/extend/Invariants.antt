use Rattle.std.proofs.Common.{List, ◌++◌, take}
use Rattle.text_parts.specs.Fronts.{IsFront}
use Rattle.text_parts.proofs.front.Front.extend.Given as goal

abbrev pub invariant-loop-value : goal.invariant-loop-value
invariant-loop-value g l =
    (list : List _) → IsFront list l.initial.self → IsFront (list ++ take l.value-index l.more) l.self
