use Rattle.std.proofs.Common.{◌≡◌, ◌++◌, take, map}
use Rattle.std.specs.List.{flat_map}
use Rattle.dia_dict.specs.Dictionary.{known}
use Rattle.msg_explain.specs.Parts.{seen_part}
use Rattle.msg_explain.specs.Lines.{part_line}
use Rattle.msg_explain.proofs.lines.put_parts.Given as goal

-- the parts so far have their lines
abbrev pub invariant-loop-part : goal.invariant-loop-part
invariant-loop-part l = l.out.items ≡ l.initial.out.items ++ flat_map (part_line l.glossary.namings (known l.glossary.definitions)) (map seen_part (take l.part-index l.parts))
