use Rattle.std.proofs.Common.{◌++◌, take}
use Rattle.base_dialog.specs.Lines.{IsCut}
use Rattle.base_dialog.proofs.lines.take_lines.Given as goal

-- the lines of what came so far are taken, and the rest is begun
abbrev pub invariant-octets : goal.invariant-octets
invariant-octets l = IsCut (l.initial.begun.items ++ take l.octet-index l.piece) l.lines.items l.begun.items
