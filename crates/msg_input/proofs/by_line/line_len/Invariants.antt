use Rattle.std.proofs.Common.{◌≤◌, ◌-◌, length, take}
use Rattle.msg_input.specs.ByLine.{IsLine}
use Rattle.msg_input.proofs.by_line.line_len.Given as goal

-- no newline so far
abbrev pub invariant-characters : goal.invariant-characters
invariant-characters l = (l.len ≤ length l.text) × IsLine (take l.len l.text)

-- each turn passes a character
abbrev pub decreases-characters : goal.decreases-characters
decreases-characters l = length l.text - l.len
