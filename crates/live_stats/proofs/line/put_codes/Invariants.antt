use Rattle.std.proofs.Common.{◌≡◌, ◌++◌, take}
use Rattle.live_stats.specs.Lines.{codes_text}
use Rattle.live_stats.proofs.line.put_codes.Given as goal

abbrev pub invariant-codes : goal.invariant-codes
invariant-codes l = l.out.items ≡ l.fn.out.items ++ codes_text l.side (take l.code l.counts)
